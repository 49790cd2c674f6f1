use Rattle.std.proofs.Common.{◌≡◌, List, ℕ, codes, inl, inr, ap, sym, subst, ◌∙◌, arith}
use Rattle.flume_host.specs.HostState.{ButDisk, Folders}
use Rattle.flume_host.proofs.Folders.{but_same}
use Rattle.agent_words.specs.Words.{texts}
use Rattle.agent_words.proofs.Unique.{one_asked}
use Rattle.plan_objects.specs.Asks.{lacking}
use Rattle.agent_commands.specs.Checked.{Checked, IsCheckStatus}
use Rattle.agent_run.specs.Named.{AgentEnds}
use Rattle.agent_run.proofs.Answering.{agent_named, never_one, not_read}
use Rattle.agent_run.proofs.Commands.{agent_is_no_check, agent_is_no_load, agent_is_no_pipe, check_never_one, load_is_no_check, load_never_one, none_runs, not_checked, one_folder, one_load, pipe_is_no_check, pipe_is_no_load, pipe_never_one, read_none, read_some}
use Rattle.channel_wishes.specs.Openings.{HostTold}
use Rattle.agent_run.specs.PipeRan.{PipeRan}
use Rattle.agent_run.specs.LoadRan.{LoadRan}
use Rattle.agent_run.proofs.LoadOff.{not_loaded}
use Rattle.agent_run.proofs.Piping.{not_piped}
use Rattle.agent_run.proofs.run.run_agent.Goals as goal

pub returns-in-Ok-Some-Check-clause-no_command : goal.returns-in-Ok-Some-Check-clause-no_command
returns-in-Ok-Some-Check-clause-no_command g c = λ none. absurd (none.no_check _ _ (read_some _ _ _ _ c.in-Ok-Some-Check.ensures c.in-Ok-Some-Check.field-0-is c.in-Ok-Some-Check.field-0-0-is))

pub returns-in-Ok-Some-Check-clause-nothing : goal.returns-in-Ok-Some-Check-clause-nothing
returns-in-Ok-Some-Check-clause-nothing g c = λ none. absurd (none.no_check _ _ (read_some _ _ _ _ c.in-Ok-Some-Check.ensures c.in-Ok-Some-Check.field-0-is c.in-Ok-Some-Check.field-0-0-is))

pub returns-in-Ok-Some-Check-clause-checked : goal.returns-in-Ok-Some-Check-clause-checked
returns-in-Ok-Some-Check-clause-checked g c = λ agent file is.
    let same = one_asked (texts c.args.words.now) (codes "check") _ _ agent file (read_some _ _ _ _ c.in-Ok-Some-Check.ensures c.in-Ok-Some-Check.field-0-is c.in-Ok-Some-Check.field-0-0-is) is in
    let n : c.as_str.result.now ≡ agent = c.as_str.ensures.value ∙ same.0 in
    let f : c.as_str-in-Ok-Some-Check.result.now ≡ file = c.as_str-in-Ok-Some-Check.ensures.value ∙ same.1 in
    let status : c.run_check-status.result ≡ c.ended.result.status = sym c.ended.ensures.status in
    let C : List ℕ × (List ℕ × ℕ) → Type 0 = λ x. Checked (lacking c.args.plugins) ((g.H.Host.state c.args.host.now).files x.1.0) x.0 (g.H.Host.state c.args.host.now) (g.H.Host.state c.run_check-status.new.host) x.1.1 in
    subst C (λ i. (n i, (f i, status i))) c.run_check-status.ensures.checked

pub returns-in-Ok-None-clause-usage : goal.returns-in-Ok-None-clause-usage
returns-in-Ok-None-clause-usage g c = λ one. none_runs _ (read_none _ _ c.in-Ok-None.ensures c.in-Ok-None.field-0-is)

pub returns-in-Ok-None-clause-check_statuses : goal.returns-in-Ok-None-clause-check_statuses
returns-in-Ok-None-clause-check_statuses g c = λ agent file is. absurd ((read_none _ _ c.in-Ok-None.ensures c.in-Ok-None.field-0-is).check agent file is)

pub returns-in-Ok-Some-Pipe-clause-piped : goal.returns-in-Ok-Some-Pipe-clause-piped
returns-in-Ok-Some-Pipe-clause-piped g c = λ dir is.
    let same = one_folder (texts c.args.words.now) _ dir (read_some _ _ _ _ c.in-Ok-Some-Pipe.ensures c.in-Ok-Some-Pipe.field-0-is c.in-Ok-Some-Pipe.field-0-0-is) is in
    let r = c.run_piped.result in
    let a : HostTold = record { state = g.H.Host.state c.args.host.now; folders = g.H.Host.folders c.args.host.now } in
    let b : HostTold = record { state = g.H.Host.state c.run_piped.new.host; folders = g.H.Host.folders c.run_piped.new.host } in
    subst (λ (d : List ℕ). PipeRan d r.status r.channels.items a b) same c.run_piped.ensures.piped

pub returns-clause-piped : goal.returns-clause-piped
returns-clause-piped g c = λ dir is. not_piped dir _ _ _ _ c.refuse-in-Err.ensures.channels c.refuse-in-Err.ensures.status c.refuse-in-Err.ensures.state c.refuse-in-Err.ensures.folders

pub returns-in-Ok-Some-Pipe-clause-channels : goal.returns-in-Ok-Some-Pipe-clause-channels
returns-in-Ok-Some-Pipe-clause-channels g c = λ none load agent. absurd (none _ (read_some _ _ _ _ c.in-Ok-Some-Pipe.ensures c.in-Ok-Some-Pipe.field-0-is c.in-Ok-Some-Pipe.field-0-0-is))

pub returns-in-Ok-Some-Check-clause-others : goal.returns-in-Ok-Some-Check-clause-others
returns-in-Ok-Some-Check-clause-others g c = λ dir is. but_same _ _ _ c.run_check-status.ensures.folders

pub returns-in-Ok-None-clause-others : goal.returns-in-Ok-None-clause-others
returns-in-Ok-None-clause-others g c = λ dir is. but_same _ _ _ c.refuse.ensures.folders

pub returns-clause-others : goal.returns-clause-others
returns-clause-others g c = λ dir is. but_same _ _ _ c.refuse-in-Err.ensures.folders

pub returns-in-Ok-Some-Agent-clause-usage : goal.returns-in-Ok-Some-Agent-clause-usage
returns-in-Ok-Some-Agent-clause-usage g c = λ one. absurd (never_one c.run_configured.result.status c.run_configured.ensures.ends.which one)

pub returns-in-Ok-Some-Agent-clause-no_command : goal.returns-in-Ok-Some-Agent-clause-no_command
returns-in-Ok-Some-Agent-clause-no_command g c = λ none. absurd (none.no_agent _ _ (read_some _ _ _ _ c.in-Ok-Some-Agent.ensures c.in-Ok-Some-Agent.field-0-is c.in-Ok-Some-Agent.field-0-0-is))

pub returns-in-Ok-Some-Agent-clause-nothing : goal.returns-in-Ok-Some-Agent-clause-nothing
returns-in-Ok-Some-Agent-clause-nothing g c = λ none. absurd (none.no_agent _ _ (read_some _ _ _ _ c.in-Ok-Some-Agent.ensures c.in-Ok-Some-Agent.field-0-is c.in-Ok-Some-Agent.field-0-0-is))

pub returns-in-Ok-Some-Agent-clause-nothing_opened : goal.returns-in-Ok-Some-Agent-clause-nothing_opened
returns-in-Ok-Some-Agent-clause-nothing_opened g c = λ none. absurd (none.no_agent _ _ (read_some _ _ _ _ c.in-Ok-Some-Agent.ensures c.in-Ok-Some-Agent.field-0-is c.in-Ok-Some-Agent.field-0-0-is))

pub returns-in-Ok-Some-Agent-clause-piped : goal.returns-in-Ok-Some-Agent-clause-piped
returns-in-Ok-Some-Agent-clause-piped g c = λ dir is. absurd (agent_is_no_pipe _ _ _ dir (read_some _ _ _ _ c.in-Ok-Some-Agent.ensures c.in-Ok-Some-Agent.field-0-is c.in-Ok-Some-Agent.field-0-0-is) is)

pub returns-in-Ok-Some-Agent-clause-pipe_statuses : goal.returns-in-Ok-Some-Agent-clause-pipe_statuses
returns-in-Ok-Some-Agent-clause-pipe_statuses g c = λ dir is. absurd (agent_is_no_pipe _ _ _ dir (read_some _ _ _ _ c.in-Ok-Some-Agent.ensures c.in-Ok-Some-Agent.field-0-is c.in-Ok-Some-Agent.field-0-0-is) is)

pub returns-in-Ok-Some-Agent-clause-others : goal.returns-in-Ok-Some-Agent-clause-others
returns-in-Ok-Some-Agent-clause-others g c = λ dir is. absurd (agent_is_no_pipe _ _ _ dir (read_some _ _ _ _ c.in-Ok-Some-Agent.ensures c.in-Ok-Some-Agent.field-0-is c.in-Ok-Some-Agent.field-0-0-is) is)

pub returns-in-Ok-Some-Agent-clause-checked : goal.returns-in-Ok-Some-Agent-clause-checked
returns-in-Ok-Some-Agent-clause-checked g c = λ agent file is. absurd (agent_is_no_check _ _ _ agent file (read_some _ _ _ _ c.in-Ok-Some-Agent.ensures c.in-Ok-Some-Agent.field-0-is c.in-Ok-Some-Agent.field-0-0-is) is)

pub returns-in-Ok-Some-Agent-clause-check_statuses : goal.returns-in-Ok-Some-Agent-clause-check_statuses
returns-in-Ok-Some-Agent-clause-check_statuses g c = λ agent file is. absurd (agent_is_no_check _ _ _ agent file (read_some _ _ _ _ c.in-Ok-Some-Agent.ensures c.in-Ok-Some-Agent.field-0-is c.in-Ok-Some-Agent.field-0-0-is) is)

pub returns-in-Ok-Some-Agent-clause-unopened : goal.returns-in-Ok-Some-Agent-clause-unopened
returns-in-Ok-Some-Agent-clause-unopened g c = λ agent file is. absurd (agent_is_no_check _ _ _ agent file (read_some _ _ _ _ c.in-Ok-Some-Agent.ensures c.in-Ok-Some-Agent.field-0-is c.in-Ok-Some-Agent.field-0-0-is) is)

pub returns-in-Ok-Some-Agent-clause-agent : goal.returns-in-Ok-Some-Agent-clause-agent
returns-in-Ok-Some-Agent-clause-agent g c = λ name file is.
    let same = one_asked (texts c.args.words.now) (codes "agent") _ _ name file (read_some _ _ _ _ c.in-Ok-Some-Agent.ensures c.in-Ok-Some-Agent.field-0-is c.in-Ok-Some-Agent.field-0-0-is) is in
    let n : c.as_str-in-Ok-Some-Agent.result.now ≡ name = c.as_str-in-Ok-Some-Agent.ensures.value ∙ same.0 in
    let f : c.as_str-in-Ok-Some-Agent-2.result.now ≡ file = c.as_str-in-Ok-Some-Agent-2.ensures.value ∙ same.1 in
    let C : List ℕ × List ℕ → Type 0 = λ x. AgentEnds (lacking c.args.plugins) ((g.H.Host.state c.args.host.now).files x.1) x.0 c.run_configured.result.status in
    subst C (λ i. (n i, f i)) c.run_configured.ensures.ends

pub returns-in-Ok-Some-Agent-clause-rolls : goal.returns-in-Ok-Some-Agent-clause-rolls
returns-in-Ok-Some-Agent-clause-rolls g c = λ none. absurd (none _ _ (read_some _ _ _ _ c.in-Ok-Some-Agent.ensures c.in-Ok-Some-Agent.field-0-is c.in-Ok-Some-Agent.field-0-0-is))

pub returns-in-Ok-None-clause-agent : goal.returns-in-Ok-None-clause-agent
returns-in-Ok-None-clause-agent g c = λ name file is. absurd ((read_none _ _ c.in-Ok-None.ensures c.in-Ok-None.field-0-is).agent name file is)

pub returns-in-Ok-Some-Agent-clause-agent_ran : goal.returns-in-Ok-Some-Agent-clause-agent_ran
returns-in-Ok-Some-Agent-clause-agent_ran g c = λ name file is.
    let same = one_asked (texts c.args.words.now) (codes "agent") _ _ name file (read_some _ _ _ _ c.in-Ok-Some-Agent.ensures c.in-Ok-Some-Agent.field-0-is c.in-Ok-Some-Agent.field-0-0-is) is in
    let n : c.as_str-in-Ok-Some-Agent.result.now ≡ name = c.as_str-in-Ok-Some-Agent.ensures.value ∙ same.0 in
    let f : c.as_str-in-Ok-Some-Agent-2.result.now ≡ file = c.as_str-in-Ok-Some-Agent-2.ensures.value ∙ same.1 in
    agent_named (g.H.Host.state c.args.host.now).files f n c.run_configured.ensures.ran

pub returns-in-Ok-Some-Agent-clause-channels : goal.returns-in-Ok-Some-Agent-clause-channels
returns-in-Ok-Some-Agent-clause-channels g c = λ pipe load none. absurd (none _ _ (read_some _ _ _ _ c.in-Ok-Some-Agent.ensures c.in-Ok-Some-Agent.field-0-is c.in-Ok-Some-Agent.field-0-0-is))

pub returns-clause-agent_ran : goal.returns-clause-agent_ran
returns-clause-agent_ran g c = λ name file is.
    inr (not_read (lacking c.args.plugins) ((g.H.Host.state c.args.host.now).files file) name _ _ _ c.refuse-in-Err.ensures.channels c.refuse-in-Err.ensures.status
    c.refuse-in-Err.ensures.state c.refuse-in-Err.ensures.folders)

pub returns-in-Ok-None-clause-agent_ran : goal.returns-in-Ok-None-clause-agent_ran
returns-in-Ok-None-clause-agent_ran g c = λ name file is. absurd ((read_none _ _ c.in-Ok-None.ensures c.in-Ok-None.field-0-is).agent name file is)

pub returns-in-Ok-Some-Load-clause-loaded : goal.returns-in-Ok-Some-Load-clause-loaded
returns-in-Ok-Some-Load-clause-loaded g c = λ n dir is.
    let same = one_load (texts c.args.words.now) _ n _ dir (read_some _ _ _ _ c.in-Ok-Some-Load.ensures c.in-Ok-Some-Load.field-0-is c.in-Ok-Some-Load.field-0-0-is) is in
    let r = c.run_loaded.result in
    let a : HostTold = record { state = g.H.Host.state c.args.host.now; folders = g.H.Host.folders c.args.host.now } in
    let b : HostTold = record { state = g.H.Host.state c.run_loaded.new.host; folders = g.H.Host.folders c.run_loaded.new.host } in
    subst (λ (x : ℕ × List ℕ). LoadRan x.0 x.1 r.status r.channels.items a b) (λ i. (same.0 i, same.1 i)) c.run_loaded.ensures.loaded

pub returns-in-Ok-Some-Load-clause-channels : goal.returns-in-Ok-Some-Load-clause-channels
returns-in-Ok-Some-Load-clause-channels g c = λ pipe none agent. absurd (none _ _ (read_some _ _ _ _ c.in-Ok-Some-Load.ensures c.in-Ok-Some-Load.field-0-is c.in-Ok-Some-Load.field-0-0-is))

pub returns-clause-loaded : goal.returns-clause-loaded
returns-clause-loaded g c = λ n dir is. not_loaded n dir _ _ _ _ c.refuse-in-Err.ensures.channels c.refuse-in-Err.ensures.status c.refuse-in-Err.ensures.state c.refuse-in-Err.ensures.folders

pub returns-clause-load_others : goal.returns-clause-load_others
returns-clause-load_others g c = λ n dir is. but_same _ _ _ c.refuse-in-Err.ensures.folders

pub returns-in-Ok-Some-Check-clause-load_others : goal.returns-in-Ok-Some-Check-clause-load_others
returns-in-Ok-Some-Check-clause-load_others g c = λ n dir is. but_same _ _ _ c.run_check-status.ensures.folders

pub returns-in-Ok-None-clause-load_others : goal.returns-in-Ok-None-clause-load_others
returns-in-Ok-None-clause-load_others g c = λ n dir is. but_same _ _ _ c.refuse.ensures.folders

pub returns-in-Ok-Some-Agent-clause-loaded : goal.returns-in-Ok-Some-Agent-clause-loaded
returns-in-Ok-Some-Agent-clause-loaded g c = λ n dir is. absurd (agent_is_no_load _ _ _ n dir (read_some _ _ _ _ c.in-Ok-Some-Agent.ensures c.in-Ok-Some-Agent.field-0-is c.in-Ok-Some-Agent.field-0-0-is) is)

pub returns-in-Ok-Some-Agent-clause-load_statuses : goal.returns-in-Ok-Some-Agent-clause-load_statuses
returns-in-Ok-Some-Agent-clause-load_statuses g c = λ n dir is. absurd (agent_is_no_load _ _ _ n dir (read_some _ _ _ _ c.in-Ok-Some-Agent.ensures c.in-Ok-Some-Agent.field-0-is c.in-Ok-Some-Agent.field-0-0-is) is)

pub returns-in-Ok-Some-Agent-clause-load_others : goal.returns-in-Ok-Some-Agent-clause-load_others
returns-in-Ok-Some-Agent-clause-load_others g c = λ n dir is. absurd (agent_is_no_load _ _ _ n dir (read_some _ _ _ _ c.in-Ok-Some-Agent.ensures c.in-Ok-Some-Agent.field-0-is c.in-Ok-Some-Agent.field-0-0-is) is)

pub returns-in-Ok-None-clause-loaded : goal.returns-in-Ok-None-clause-loaded
returns-in-Ok-None-clause-loaded g c = λ n dir is. absurd ((read_none _ _ c.in-Ok-None.ensures c.in-Ok-None.field-0-is).load n dir is)

pub returns-in-Ok-None-clause-load_statuses : goal.returns-in-Ok-None-clause-load_statuses
returns-in-Ok-None-clause-load_statuses g c = λ n dir is. absurd ((read_none _ _ c.in-Ok-None.ensures c.in-Ok-None.field-0-is).load n dir is)

pub returns-in-Ok-Some-Load-clause-no_command : goal.returns-in-Ok-Some-Load-clause-no_command
returns-in-Ok-Some-Load-clause-no_command g c = λ none. absurd (none.no_load _ _ (read_some _ _ _ _ c.in-Ok-Some-Load.ensures c.in-Ok-Some-Load.field-0-is c.in-Ok-Some-Load.field-0-0-is))

pub returns-in-Ok-Some-Load-clause-nothing : goal.returns-in-Ok-Some-Load-clause-nothing
returns-in-Ok-Some-Load-clause-nothing g c = λ none. absurd (none.no_load _ _ (read_some _ _ _ _ c.in-Ok-Some-Load.ensures c.in-Ok-Some-Load.field-0-is c.in-Ok-Some-Load.field-0-0-is))

pub returns-in-Ok-Some-Load-clause-nothing_opened : goal.returns-in-Ok-Some-Load-clause-nothing_opened
returns-in-Ok-Some-Load-clause-nothing_opened g c = λ none. absurd (none.no_load _ _ (read_some _ _ _ _ c.in-Ok-Some-Load.ensures c.in-Ok-Some-Load.field-0-is c.in-Ok-Some-Load.field-0-0-is))

pub returns-in-Ok-Some-Pipe-clause-usage : goal.returns-in-Ok-Some-Pipe-clause-usage
returns-in-Ok-Some-Pipe-clause-usage g c = λ one. absurd (pipe_never_one c.run_piped.result.status c.run_piped.ensures.status one)

pub returns-in-Ok-Some-Pipe-clause-no_command : goal.returns-in-Ok-Some-Pipe-clause-no_command
returns-in-Ok-Some-Pipe-clause-no_command g c = λ none. absurd (none.no_pipe _ (read_some _ _ _ _ c.in-Ok-Some-Pipe.ensures c.in-Ok-Some-Pipe.field-0-is c.in-Ok-Some-Pipe.field-0-0-is))

pub returns-in-Ok-Some-Pipe-clause-nothing : goal.returns-in-Ok-Some-Pipe-clause-nothing
returns-in-Ok-Some-Pipe-clause-nothing g c = λ none. absurd (none.no_pipe _ (read_some _ _ _ _ c.in-Ok-Some-Pipe.ensures c.in-Ok-Some-Pipe.field-0-is c.in-Ok-Some-Pipe.field-0-0-is))

pub returns-in-Ok-Some-Pipe-clause-nothing_opened : goal.returns-in-Ok-Some-Pipe-clause-nothing_opened
returns-in-Ok-Some-Pipe-clause-nothing_opened g c = λ none. absurd (none.no_pipe _ (read_some _ _ _ _ c.in-Ok-Some-Pipe.ensures c.in-Ok-Some-Pipe.field-0-is c.in-Ok-Some-Pipe.field-0-0-is))

pub returns-in-Ok-Some-Pipe-clause-pipe_statuses : goal.returns-in-Ok-Some-Pipe-clause-pipe_statuses
returns-in-Ok-Some-Pipe-clause-pipe_statuses g c = λ dir is. c.run_piped.ensures.status

pub returns-in-Ok-Some-Pipe-clause-others : goal.returns-in-Ok-Some-Pipe-clause-others
returns-in-Ok-Some-Pipe-clause-others g c = λ dir is.
    let same = one_folder (texts c.args.words.now) _ dir (read_some _ _ _ _ c.in-Ok-Some-Pipe.ensures c.in-Ok-Some-Pipe.field-0-is c.in-Ok-Some-Pipe.field-0-0-is) is in
    subst (λ (d : List ℕ). ButDisk d (g.H.Host.folders c.args.host.now) (g.H.Host.folders c.run_piped.new.host)) same c.run_piped.ensures.others

pub returns-in-Ok-Some-Pipe-clause-checked : goal.returns-in-Ok-Some-Pipe-clause-checked
returns-in-Ok-Some-Pipe-clause-checked g c = λ agent file is. absurd (pipe_is_no_check _ _ agent file (read_some _ _ _ _ c.in-Ok-Some-Pipe.ensures c.in-Ok-Some-Pipe.field-0-is c.in-Ok-Some-Pipe.field-0-0-is) is)

pub returns-in-Ok-Some-Pipe-clause-check_statuses : goal.returns-in-Ok-Some-Pipe-clause-check_statuses
returns-in-Ok-Some-Pipe-clause-check_statuses g c = λ agent file is. absurd (pipe_is_no_check _ _ agent file (read_some _ _ _ _ c.in-Ok-Some-Pipe.ensures c.in-Ok-Some-Pipe.field-0-is c.in-Ok-Some-Pipe.field-0-0-is) is)

pub returns-in-Ok-Some-Pipe-clause-unopened : goal.returns-in-Ok-Some-Pipe-clause-unopened
returns-in-Ok-Some-Pipe-clause-unopened g c = λ agent file is. absurd (pipe_is_no_check _ _ agent file (read_some _ _ _ _ c.in-Ok-Some-Pipe.ensures c.in-Ok-Some-Pipe.field-0-is c.in-Ok-Some-Pipe.field-0-0-is) is)

pub returns-in-Ok-Some-Pipe-clause-loaded : goal.returns-in-Ok-Some-Pipe-clause-loaded
returns-in-Ok-Some-Pipe-clause-loaded g c = λ n dir is. absurd (pipe_is_no_load _ _ n dir (read_some _ _ _ _ c.in-Ok-Some-Pipe.ensures c.in-Ok-Some-Pipe.field-0-is c.in-Ok-Some-Pipe.field-0-0-is) is)

pub returns-in-Ok-Some-Pipe-clause-load_statuses : goal.returns-in-Ok-Some-Pipe-clause-load_statuses
returns-in-Ok-Some-Pipe-clause-load_statuses g c = λ n dir is. absurd (pipe_is_no_load _ _ n dir (read_some _ _ _ _ c.in-Ok-Some-Pipe.ensures c.in-Ok-Some-Pipe.field-0-is c.in-Ok-Some-Pipe.field-0-0-is) is)

pub returns-in-Ok-Some-Pipe-clause-load_others : goal.returns-in-Ok-Some-Pipe-clause-load_others
returns-in-Ok-Some-Pipe-clause-load_others g c = λ n dir is. absurd (pipe_is_no_load _ _ n dir (read_some _ _ _ _ c.in-Ok-Some-Pipe.ensures c.in-Ok-Some-Pipe.field-0-is c.in-Ok-Some-Pipe.field-0-0-is) is)

pub returns-in-Ok-Some-Pipe-clause-agent : goal.returns-in-Ok-Some-Pipe-clause-agent
returns-in-Ok-Some-Pipe-clause-agent g c = λ name file is. absurd (agent_is_no_pipe _ name file _ is (read_some _ _ _ _ c.in-Ok-Some-Pipe.ensures c.in-Ok-Some-Pipe.field-0-is c.in-Ok-Some-Pipe.field-0-0-is))

pub returns-in-Ok-Some-Pipe-clause-agent_ran : goal.returns-in-Ok-Some-Pipe-clause-agent_ran
returns-in-Ok-Some-Pipe-clause-agent_ran g c = λ name file is. absurd (agent_is_no_pipe _ name file _ is (read_some _ _ _ _ c.in-Ok-Some-Pipe.ensures c.in-Ok-Some-Pipe.field-0-is c.in-Ok-Some-Pipe.field-0-0-is))

pub returns-in-Ok-Some-Pipe-clause-rolls : goal.returns-in-Ok-Some-Pipe-clause-rolls
returns-in-Ok-Some-Pipe-clause-rolls g c = λ none. (c.run_piped.ensures.others.rolls, c.run_piped.ensures.others.rolls_opened)

pub returns-in-Ok-Some-Check-clause-usage : goal.returns-in-Ok-Some-Check-clause-usage
returns-in-Ok-Some-Check-clause-usage g c = λ one. absurd (check_never_one c.run_check-status.result c.run_check-status.ensures.status (sym c.ended.ensures.status ∙ one))

pub returns-in-Ok-Some-Check-clause-nothing_opened : goal.returns-in-Ok-Some-Check-clause-nothing_opened
returns-in-Ok-Some-Check-clause-nothing_opened g c = λ none. absurd (none.no_check _ _ (read_some _ _ _ _ c.in-Ok-Some-Check.ensures c.in-Ok-Some-Check.field-0-is c.in-Ok-Some-Check.field-0-0-is))

pub returns-in-Ok-Some-Check-clause-piped : goal.returns-in-Ok-Some-Check-clause-piped
returns-in-Ok-Some-Check-clause-piped g c = λ dir is. absurd (pipe_is_no_check _ dir _ _ is (read_some _ _ _ _ c.in-Ok-Some-Check.ensures c.in-Ok-Some-Check.field-0-is c.in-Ok-Some-Check.field-0-0-is))

pub returns-in-Ok-Some-Check-clause-pipe_statuses : goal.returns-in-Ok-Some-Check-clause-pipe_statuses
returns-in-Ok-Some-Check-clause-pipe_statuses g c = λ dir is. absurd (pipe_is_no_check _ dir _ _ is (read_some _ _ _ _ c.in-Ok-Some-Check.ensures c.in-Ok-Some-Check.field-0-is c.in-Ok-Some-Check.field-0-0-is))

pub returns-in-Ok-Some-Check-clause-check_statuses : goal.returns-in-Ok-Some-Check-clause-check_statuses
returns-in-Ok-Some-Check-clause-check_statuses g c = λ agent file is. subst IsCheckStatus (sym c.ended.ensures.status) c.run_check-status.ensures.status

pub returns-in-Ok-Some-Check-clause-unopened : goal.returns-in-Ok-Some-Check-clause-unopened
returns-in-Ok-Some-Check-clause-unopened g c = λ agent file is. c.run_check-status.ensures.folders

pub returns-in-Ok-Some-Check-clause-loaded : goal.returns-in-Ok-Some-Check-clause-loaded
returns-in-Ok-Some-Check-clause-loaded g c = λ n dir is. absurd (load_is_no_check _ n dir _ _ is (read_some _ _ _ _ c.in-Ok-Some-Check.ensures c.in-Ok-Some-Check.field-0-is c.in-Ok-Some-Check.field-0-0-is))

pub returns-in-Ok-Some-Check-clause-load_statuses : goal.returns-in-Ok-Some-Check-clause-load_statuses
returns-in-Ok-Some-Check-clause-load_statuses g c = λ n dir is. absurd (load_is_no_check _ n dir _ _ is (read_some _ _ _ _ c.in-Ok-Some-Check.ensures c.in-Ok-Some-Check.field-0-is c.in-Ok-Some-Check.field-0-0-is))

pub returns-in-Ok-Some-Check-clause-agent : goal.returns-in-Ok-Some-Check-clause-agent
returns-in-Ok-Some-Check-clause-agent g c = λ name file is. absurd (agent_is_no_check _ name file _ _ is (read_some _ _ _ _ c.in-Ok-Some-Check.ensures c.in-Ok-Some-Check.field-0-is c.in-Ok-Some-Check.field-0-0-is))

pub returns-in-Ok-Some-Check-clause-agent_ran : goal.returns-in-Ok-Some-Check-clause-agent_ran
returns-in-Ok-Some-Check-clause-agent_ran g c = λ name file is. absurd (agent_is_no_check _ name file _ _ is (read_some _ _ _ _ c.in-Ok-Some-Check.ensures c.in-Ok-Some-Check.field-0-is c.in-Ok-Some-Check.field-0-0-is))

pub returns-in-Ok-Some-Check-clause-channels : goal.returns-in-Ok-Some-Check-clause-channels
returns-in-Ok-Some-Check-clause-channels g c = λ pipe load agent. c.ended.ensures.channels

pub returns-in-Ok-Some-Check-clause-rolls : goal.returns-in-Ok-Some-Check-clause-rolls
returns-in-Ok-Some-Check-clause-rolls g c = λ none. (ap (λ (f : Folders). f.rolls) c.run_check-status.ensures.folders, ap (λ (f : Folders). f.roll_opened) c.run_check-status.ensures.folders)

pub returns-in-Ok-Some-Load-clause-usage : goal.returns-in-Ok-Some-Load-clause-usage
returns-in-Ok-Some-Load-clause-usage g c = λ one. absurd (load_never_one c.run_loaded.result.status c.run_loaded.ensures.status one)

pub returns-in-Ok-Some-Load-clause-piped : goal.returns-in-Ok-Some-Load-clause-piped
returns-in-Ok-Some-Load-clause-piped g c = λ dir is. absurd (pipe_is_no_load _ dir _ _ is (read_some _ _ _ _ c.in-Ok-Some-Load.ensures c.in-Ok-Some-Load.field-0-is c.in-Ok-Some-Load.field-0-0-is))

pub returns-in-Ok-Some-Load-clause-pipe_statuses : goal.returns-in-Ok-Some-Load-clause-pipe_statuses
returns-in-Ok-Some-Load-clause-pipe_statuses g c = λ dir is. absurd (pipe_is_no_load _ dir _ _ is (read_some _ _ _ _ c.in-Ok-Some-Load.ensures c.in-Ok-Some-Load.field-0-is c.in-Ok-Some-Load.field-0-0-is))

pub returns-in-Ok-Some-Load-clause-others : goal.returns-in-Ok-Some-Load-clause-others
returns-in-Ok-Some-Load-clause-others g c = λ dir is. absurd (pipe_is_no_load _ dir _ _ is (read_some _ _ _ _ c.in-Ok-Some-Load.ensures c.in-Ok-Some-Load.field-0-is c.in-Ok-Some-Load.field-0-0-is))

pub returns-in-Ok-Some-Load-clause-checked : goal.returns-in-Ok-Some-Load-clause-checked
returns-in-Ok-Some-Load-clause-checked g c = λ agent file is. absurd (load_is_no_check _ _ _ agent file (read_some _ _ _ _ c.in-Ok-Some-Load.ensures c.in-Ok-Some-Load.field-0-is c.in-Ok-Some-Load.field-0-0-is) is)

pub returns-in-Ok-Some-Load-clause-check_statuses : goal.returns-in-Ok-Some-Load-clause-check_statuses
returns-in-Ok-Some-Load-clause-check_statuses g c = λ agent file is. absurd (load_is_no_check _ _ _ agent file (read_some _ _ _ _ c.in-Ok-Some-Load.ensures c.in-Ok-Some-Load.field-0-is c.in-Ok-Some-Load.field-0-0-is) is)

pub returns-in-Ok-Some-Load-clause-unopened : goal.returns-in-Ok-Some-Load-clause-unopened
returns-in-Ok-Some-Load-clause-unopened g c = λ agent file is. absurd (load_is_no_check _ _ _ agent file (read_some _ _ _ _ c.in-Ok-Some-Load.ensures c.in-Ok-Some-Load.field-0-is c.in-Ok-Some-Load.field-0-0-is) is)

pub returns-in-Ok-Some-Load-clause-load_statuses : goal.returns-in-Ok-Some-Load-clause-load_statuses
returns-in-Ok-Some-Load-clause-load_statuses g c = λ n dir is. c.run_loaded.ensures.status

pub returns-in-Ok-Some-Load-clause-load_others : goal.returns-in-Ok-Some-Load-clause-load_others
returns-in-Ok-Some-Load-clause-load_others g c = λ n dir is.
    let same = one_load (texts c.args.words.now) _ n _ dir (read_some _ _ _ _ c.in-Ok-Some-Load.ensures c.in-Ok-Some-Load.field-0-is c.in-Ok-Some-Load.field-0-0-is) is in
    subst (λ (d : List ℕ). ButDisk d (g.H.Host.folders c.args.host.now) (g.H.Host.folders c.run_loaded.new.host)) same.1 c.run_loaded.ensures.others

pub returns-in-Ok-Some-Load-clause-agent : goal.returns-in-Ok-Some-Load-clause-agent
returns-in-Ok-Some-Load-clause-agent g c = λ name file is. absurd (agent_is_no_load _ name file _ _ is (read_some _ _ _ _ c.in-Ok-Some-Load.ensures c.in-Ok-Some-Load.field-0-is c.in-Ok-Some-Load.field-0-0-is))

pub returns-in-Ok-Some-Load-clause-agent_ran : goal.returns-in-Ok-Some-Load-clause-agent_ran
returns-in-Ok-Some-Load-clause-agent_ran g c = λ name file is. absurd (agent_is_no_load _ name file _ _ is (read_some _ _ _ _ c.in-Ok-Some-Load.ensures c.in-Ok-Some-Load.field-0-is c.in-Ok-Some-Load.field-0-0-is))

pub returns-in-Ok-Some-Load-clause-rolls : goal.returns-in-Ok-Some-Load-clause-rolls
returns-in-Ok-Some-Load-clause-rolls g c = λ none. (c.run_loaded.ensures.others.rolls, c.run_loaded.ensures.others.rolls_opened)

pub returns-in-Ok-None-clause-no_command : goal.returns-in-Ok-None-clause-no_command
returns-in-Ok-None-clause-no_command g c = λ none. inl c.refuse.ensures.status

pub returns-in-Ok-None-clause-nothing : goal.returns-in-Ok-None-clause-nothing
returns-in-Ok-None-clause-nothing g c = λ none. c.refuse.ensures.state

pub returns-in-Ok-None-clause-nothing_opened : goal.returns-in-Ok-None-clause-nothing_opened
returns-in-Ok-None-clause-nothing_opened g c = λ none. c.refuse.ensures.folders

pub returns-in-Ok-None-clause-piped : goal.returns-in-Ok-None-clause-piped
returns-in-Ok-None-clause-piped g c = λ dir is. absurd ((read_none _ _ c.in-Ok-None.ensures c.in-Ok-None.field-0-is).pipe dir is)

pub returns-in-Ok-None-clause-pipe_statuses : goal.returns-in-Ok-None-clause-pipe_statuses
returns-in-Ok-None-clause-pipe_statuses g c = λ dir is. absurd ((read_none _ _ c.in-Ok-None.ensures c.in-Ok-None.field-0-is).pipe dir is)

pub returns-in-Ok-None-clause-checked : goal.returns-in-Ok-None-clause-checked
returns-in-Ok-None-clause-checked g c = λ agent file is. absurd ((read_none _ _ c.in-Ok-None.ensures c.in-Ok-None.field-0-is).check agent file is)

pub returns-in-Ok-None-clause-unopened : goal.returns-in-Ok-None-clause-unopened
returns-in-Ok-None-clause-unopened g c = λ agent file is. absurd ((read_none _ _ c.in-Ok-None.ensures c.in-Ok-None.field-0-is).check agent file is)

pub returns-in-Ok-None-clause-channels : goal.returns-in-Ok-None-clause-channels
returns-in-Ok-None-clause-channels g c = λ pipe load agent. c.refuse.ensures.channels

pub returns-in-Ok-None-clause-rolls : goal.returns-in-Ok-None-clause-rolls
returns-in-Ok-None-clause-rolls g c = λ none. (ap (λ (f : Folders). f.rolls) c.refuse.ensures.folders, ap (λ (f : Folders). f.roll_opened) c.refuse.ensures.folders)

pub returns-clause-usage : goal.returns-clause-usage
returns-clause-usage g c = λ one. absurd (omega (arith, one, c.refuse-in-Err.ensures.status))

pub returns-clause-no_command : goal.returns-clause-no_command
returns-clause-no_command g c = λ none. inr c.refuse-in-Err.ensures.status

pub returns-clause-nothing : goal.returns-clause-nothing
returns-clause-nothing g c = λ none. c.refuse-in-Err.ensures.state

pub returns-clause-nothing_opened : goal.returns-clause-nothing_opened
returns-clause-nothing_opened g c = λ none. c.refuse-in-Err.ensures.folders

pub returns-clause-pipe_statuses : goal.returns-clause-pipe_statuses
returns-clause-pipe_statuses g c = λ dir is. inr (inr (inr (inl c.refuse-in-Err.ensures.status)))

pub returns-clause-checked : goal.returns-clause-checked
returns-clause-checked g c = λ agent file is. not_checked _ _ agent _ _ _ c.refuse-in-Err.ensures.status c.refuse-in-Err.ensures.state

pub returns-clause-check_statuses : goal.returns-clause-check_statuses
returns-clause-check_statuses g c = λ agent file is. inr (inr (inr c.refuse-in-Err.ensures.status))

pub returns-clause-unopened : goal.returns-clause-unopened
returns-clause-unopened g c = λ agent file is. c.refuse-in-Err.ensures.folders

pub returns-clause-load_statuses : goal.returns-clause-load_statuses
returns-clause-load_statuses g c = λ n dir is. inr (inr (inr c.refuse-in-Err.ensures.status))

pub returns-clause-agent : goal.returns-clause-agent
returns-clause-agent g c = λ name file is. record {
  which = inr (inr (inr (inr (inl c.refuse-in-Err.ensures.status))));
  fault = λ two. absurd (omega (arith, two, c.refuse-in-Err.ensures.status));
}

pub returns-clause-channels : goal.returns-clause-channels
returns-clause-channels g c = λ pipe load agent. c.refuse-in-Err.ensures.channels

pub returns-clause-rolls : goal.returns-clause-rolls
returns-clause-rolls g c = λ none. (ap (λ (f : Folders). f.rolls) c.refuse-in-Err.ensures.folders, ap (λ (f : Folders). f.roll_opened) c.refuse-in-Err.ensures.folders)
