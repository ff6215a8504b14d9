use Rattle.std.proofs.Common.{◌≡◌, sym, subst, true}
use Rattle.feel_value.specs.Datum.{text}
use Rattle.dmn_analysis.specs.Classes.{is_word}
use Rattle.dmn_analysis.specs.Listing.{IsListing}
use Rattle.dmn_analysis.specs.Searching.{Settles}
use Rattle.dmn_analysis.proofs.TextOrder.{word_of_run}
use Rattle.dmn_analysis.proofs.met.words_are_sure.Goals as goal

pub returns : goal.returns
returns c = λ told order s m among.
    let words = c.args.words.now in
    let cell = c.args.cell in
    c.is_sure.ensures told (text s) m (subst (λ ts. is_word ts (text s) ≡ true) (sym c.within-some.ensures) (word_of_run words cell.from cell.to s order among))

pub returns-in-Some : goal.returns-in-Some
returns-in-Some c = λ told order s m among.
    let words = c.args.words.now in
    let cell = c.args.cell in
    let listing : IsListing c.in-Some.listing.now c.args.tests.now = rw c.in-Some.is at c.requires in
    subst (Settles c.args.met) (sym (listing.told (text s) m))
    (c.words_are_sure.ensures told (text s) (subst (λ ts. is_word ts (text s) ≡ true) (sym c.within-some.ensures) (word_of_run words cell.from cell.to s order among)))
