-- What a listener and a dialer in memory show, and what each call does by its script.
use Rattle.std.specs.Prelude.{◌≡◌, ◌⊎◌, ◌<◌, ◌≤◌, ◌+◌, length, get_or, map, set, string_bytes}
use Rattle.std.specs.Prelude.{Option, Some, None, Result, Ok, IsErr, IfOk, OnOk, MatchOption}
use Rattle.std.specs.Option.{option_map}
use Rattle.flume_host.specs.Listens.{Endpoint, LinksTold}
use Rattle.flume_host.specs.declared.names.Failed.{Failed}
use Rattle.host_memory.specs.declared.address.Address.{Address}
use Rattle.host_memory.specs.declared.given.Given.{Given}
use Rattle.host_memory.specs.declared.mem_link.MemLink.{MemLink}
use Rattle.host_memory.specs.declared.mem_listener.MemListener.{MemListener}
use Rattle.host_memory.specs.declared.mem_listener.Offer.{Offer}
use Rattle.host_memory.specs.declared.mem_listener.Offer.TheVariants.{Link, Quiet, Fail, Hold}
use Rattle.host_memory.specs.declared.mem_dialer.MemDialer.{MemDialer}
use Rattle.host_memory.specs.Links.{where_tells, link_record, link_steps, link_place, start_place}
use Rattle.host_memory.specs.Links.{send_fails, send_calls, send_pieces}

-- what is told of the links that were given and taken back
abbrev pub given_told : Given → Option LinksTold
given_told g = where_tells g.tells (record { given = g.given; kept = map link_record g.back.items; failed = g.failed })

-- the address and port for which a host handed it out
abbrev pub endpoint_at : Option Address → Option Endpoint
endpoint_at at = option_map (λ (a : Address). record { host = string_bytes a.host; port = a.port }) at

abbrev pub listener_endpoint : MemListener → Option Endpoint
listener_endpoint l = endpoint_at l.at

abbrev pub dialer_endpoint : MemDialer → Option Endpoint
dialer_endpoint d = endpoint_at d.at

abbrev pub listener_told : MemListener → Option LinksTold
listener_told l = given_told l.given

abbrev pub dialer_told : MemDialer → Option LinksTold
dialer_told d = given_told d.given

-- a link with the script of that one, of which nothing was asked
pub record IsFreshCopy (link copy : MemLink) : Type 0 where
  pub steps : link_steps copy ≡ link_steps link
  pub place : link_place copy ≡ start_place
  pub fails : send_fails copy ≡ send_fails link
  pub calls : send_calls copy ≡ 0
  pub pieces : send_pieces copy ≡ send_pieces link

-- what an accept answers by an offer; at a link it may also have found no memory
abbrev pub AnswersOffer : Offer → Result (Option MemLink) Failed → Type 0
AnswersOffer (Link link) result = IfOk result (λ found. MatchOption found ⊥ (IsFreshCopy link))
AnswersOffer Quiet result = result ≡ Ok None
AnswersOffer Fail result = IsErr result
AnswersOffer (Hold flag) result = OnOk result (result ≡ Ok None)

-- An accept answers by the next offer, which is taken out, or waits in vain after them all.
abbrev pub FollowsOffers : MemListener → MemListener → Result (Option MemLink) Failed → Type 0
FollowsOffers old new result =
    ((length old.offers.items ≤ old.next) × (result ≡ Ok None) × (new.next ≡ old.next))
    ⊎ ((old.next < length old.offers.items) × (new.next ≡ old.next + 1)
    × (new.offers.items ≡ set old.offers.items old.next Quiet)
    × ((d : Offer) → AnswersOffer (get_or old.offers.items old.next d) result))

-- a dial gives the link of a place, or has found no memory; at an empty place it fails
abbrev pub AnswersDial : Option MemLink → Result MemLink Failed → Type 0
AnswersDial (Some link) result = IfOk result (IsFreshCopy link)
AnswersDial None result = IsErr result

-- A dial answers by the next place, which is emptied, or fails after them all.
abbrev pub FollowsDials : MemDialer → MemDialer → Result MemLink Failed → Type 0
FollowsDials old new result =
    ((length old.links.items ≤ old.next) × IsErr result × (new.next ≡ old.next))
    ⊎ ((old.next < length old.links.items) × (new.next ≡ old.next + 1)
    × (new.links.items ≡ set old.links.items old.next None)
    × ((d : Option MemLink) → AnswersDial (get_or old.links.items old.next d) result))
