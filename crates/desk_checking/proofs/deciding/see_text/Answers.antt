use Rattle.std.specs.Arc.{arc_str_bytes}
use Rattle.std.proofs.lemmas.Str.{IsUtf8-string_bytes, is_utf8-from_IsUtf8}
use Rattle.desk_checking.proofs.deciding.see_text.Goals as goal

pub returns : goal.returns
returns c = is_utf8-from_IsUtf8 (arc_str_bytes c.args.text.now) (IsUtf8-string_bytes c.args.text.now.text.value)
