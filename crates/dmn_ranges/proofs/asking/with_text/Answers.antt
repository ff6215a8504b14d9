use Rattle.std.proofs.Common.{◌∙◌, sym, ap, map, ◌++◌}
use Rattle.std.specs.Arc.{arc_str_bytes}
use Rattle.std.proofs.lemmas.List.{append-nil}
use Rattle.dmn_ranges.specs.Asking.{text_in}
use Rattle.dmn_ranges.specs.Ranges.{text_of}
use Rattle.dmn_ranges.proofs.SoundAsking.{text_pushed}
use Rattle.dmn_ranges.proofs.asking.with_text.Goals as goal

pub returns-in_default : goal.returns-in_default
returns-in_default c =
    let old = map arc_str_bytes c.args.texts.items in
    sym (ap (λ w. old ++ text_in w) c.in_default.is ∙ append-nil old)

pub returns : goal.returns
returns c =
    let old = c.args.texts.items in
    text_pushed old c.push.new.self.items c.in_ok-text.text (text_of c.in-Some.word) c.in_ok-push.ensures.items (c.in_ok-text.ensures.ok ∙ c.in-Some-as_str.ensures.some)
    ∙ ap (λ w. map arc_str_bytes old ++ text_in w) (sym c.in-Some.is)
