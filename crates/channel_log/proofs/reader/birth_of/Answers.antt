use Rattle.std.proofs.Common.{◌≡◌, true, false}
use Rattle.channel_log.proofs.Begins.{no_birth}
use Rattle.channel_log.proofs.reader.birth_of.Goals as goal

pub returns-else-is_header-2 : goal.returns-else-is_header-2
returns-else-is_header-2 c = no_birth c.args.number c.args.head.now (λ h. let e : false ≡ true = c.if-is_header.ensures.1 h in cc) (λ h. let e : false ≡ true = c.if-is_header-2.ensures.1 h in cc)
