use Rattle.std.proofs.Common.{◌∙◌, ap, sym, Some}
use Rattle.std.proofs.lemmas.Option.{slice_get-get_or}
use Rattle.dmn_told.proofs.Comings.{tables_count, tables_kept, tables_there}
use Rattle.dmn_told.proofs.coming.add_tables.Goals as goal

pub returns-clause-keeps : goal.returns-clause-keeps
returns-clause-keeps c =
    tables_kept c.args.told.now.items c.keep.new.told.items c.args.place c.index.result.now c.in_ok-wide.wide c.keep.ensures.kept c.requires
    (slice_get-get_or c.args.told.now.items c.args.place _ c.requires ∙ ap Some (sym c.index.ensures)) c.in_ok-wide.ensures.before

pub returns-clause-has : goal.returns-clause-has
returns-clause-has c = tables_there c.args.told.now.items c.keep.new.told.items c.args.place c.in_ok-wide.wide c.args.tables c.keep.ensures.kept c.requires c.in_ok-wide.ensures.tables

pub returns-clause-count : goal.returns-clause-count
returns-clause-count c = tables_count c.args.told.now.items c.keep.new.told.items c.args.place (Some c.in_ok-wide.wide) c.keep.ensures.kept
