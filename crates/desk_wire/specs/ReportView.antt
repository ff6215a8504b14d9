-- The report that the code holds.
use Rattle.desk_wire.specs.Reports as said
use Rattle.desk_wire.specs.declared.report.Report.{Report}
use Rattle.desk_wire.specs.declared.report.Report.TheVariants.{Loaded, Faulty, Refused, Of, Reply}

abbrev pub report_view : Report → said.Report
report_view (Loaded k) = said.Loaded k
report_view (Faulty k fault) = said.Faulty k fault
report_view (Refused k why) = said.Refused k why
report_view (Of client k told) = said.Of client.now k told
report_view (Reply client ticket outcome) = said.Reply client.now ticket outcome.now
