use Rattle.std.proofs.Common.{◌++◌, ℕ, List, ap, codes, refl}
use Rattle.serde_json.specs.Data.{array, boolean}
use Rattle.serde_json.specs.Written.{compact_text}
use Rattle.desk_checking.specs.TableTold.{undecided_told}
use Rattle.desk_checking.specs.Told.{numbers_told}
use Rattle.desk_checking.proofs.Lines.{eleven}
use Rattle.desk_checking.proofs.TableLines.{undecided_pieces}
use Rattle.desk_checking.proofs.table_lines.add_undecided.Goals as goal

abbrev told : List ℕ → List ℕ
told rules = compact_text (array (numbers_told rules))

pub returns : goal.returns
returns c =
    let u = c.args.undecided.now in
    let steps = compact_text (boolean u.steps) in
    eleven c.args.text.now.items _ _ _ _ _ _ _ _ _ _ _ (codes "{\"rules\":") _ (codes ",\"outputs\":") _ (codes ",\"ranks\":") _ (codes ",\"idle\":") _ (codes ",\"steps\":") steps (codes "}")
    (told u.rules.items) (told u.outputs.items) (told u.ranks.items) (told u.idle.items) steps (c.args.text.now.items ++ compact_text (undecided_told u)) c.in_ok-extend_from_slice.ensures.items
    c.in_ok-add_rules.ensures c.in_ok-extend_from_slice-2.ensures.items c.in_ok-add_rules-2.ensures c.in_ok-extend_from_slice-3.ensures.items c.in_ok-add_rules-3.ensures
    c.in_ok-extend_from_slice-4.ensures.items c.in_ok-add_rules-4.ensures c.in_ok-extend_from_slice-5.ensures.items c.in_ok-add_bool.ensures c.in_ok-extend_from_slice-6.ensures.items
    (ap told c.deref.ensures.value) (ap told c.deref-2.ensures.value) (ap told c.deref-3.ensures.value) (ap told c.deref-4.ensures.value) refl (undecided_pieces c.args.text.now.items u)
