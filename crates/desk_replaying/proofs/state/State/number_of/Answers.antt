-- The name is the one that stands there, and none of those before.
use Rattle.std.proofs.Common.{◌≡◌, ◌<◌, true, length, get_or, string_bytes, arith, rules}
use Rattle.std.specs.Str.{bytes_eq}
use Rattle.std.proofs.lemmas.Grind.{common_steps}
use Rattle.desk_replaying.proofs.Finding.{position_at}
use Rattle.desk_replaying.proofs.state.State.number_of.Goals as goal

pub returns-then-eq : goal.returns-then-eq
returns-then-eq g c =
    let names = c.args.self.now.names.items in
    let within : c.loop-number.number < length c.args.self.now.names.items = first_of (omega arith, search rules) in
    let here : c.opened-item.result ≡ get_or c.args.self.now.names.items c.loop-number.number c.opened-item.result = cc (c.opened-item.is, c.deref-opened-items.ensures.value) in
    let same : bytes_eq (string_bytes c.opened-item.result) c.args.name.now ≡ true = first_of (search rules, grind (arith, common_steps)) in
    position_at (λ opened. bytes_eq (string_bytes opened) c.args.name.now) names c.loop-number.number c.opened-item.result c.loop-number.invariant within here same
