use Rattle.std.proofs.Common.{◌≡◌, ◌∙◌, sym, ap, subst, List}
use Rattle.dmn_service.specs.Run.{nothing_found, given_at}
use Rattle.dmn_ranges.specs.Ranges.{Members}
use Rattle.dmn_ranges.specs.Services.{TellsFilled, Tells, given_known, given_told, views}
use Rattle.dmn_ranges.specs.declared.outcomes.Outcomes.{Outcomes}
use Rattle.dmn_ranges.proofs.SoundServices.{along_sound, views_length}
use Rattle.dmn_ranges.proofs.service.ranges_along.Goals as goal

pub returns : goal.returns
returns c =
    let items = c.args.items.now in
    let ps = c.args.service.now.parameters.items in
    let order = c.args.service.now.order.items in
    let domains = c.args.domains.now in
    let start = c.in_ok-told.told.items in
    let blank = views c.in_ok-known.known.items in
    let told = c.give.new.told.items in
    let known = views c.give_members.new.known.items in
    let given : told ≡ given_told domains 0 ps start = c.give.ensures.given ∙ ap (λ qs. given_told domains 0 qs start) c.deref.ensures.value in
    let members : known ≡ given_known domains 0 ps blank = c.give_members.ensures.given ∙ ap (λ qs. given_known domains 0 qs blank) c.deref-2.ensures.value in
    let filled = subst (λ qs. TellsFilled items qs (told, known) (c.fill.new.told.items, views c.fill.new.known.items)) c.deref-3.ensures.value c.in_ok-fill.ensures.filled in
    record {
      told = λ values within.
          filled (given_at ps values nothing_found)
          (let P : List Outcomes → Type 0 = λ ts. Tells (ts, known) (given_at ps values nothing_found) in
          let Q : List Members → Type 0 = λ ks. Tells (given_told domains 0 ps start, ks) (given_at ps values nothing_found) in
          subst P (sym given) (subst Q (sym members) (along_sound items ps domains start blank values c.in_ok-told.ensures.nothing c.in_ok-told.ensures.count (views_length c.in_ok-known.known.items ∙ c.in_ok-known.ensures)
          c.requires.places.parameters c.requires.domains within)));
      count = c.in_ok-fill.ensures.count ∙ c.give.ensures.count ∙ c.in_ok-told.ensures.count;
    }
