use Rattle.std.proofs.Common.{rules}
use Rattle.report.proofs.Streams.{all_told}
use Rattle.report.proofs.filtering.filter.Goals as goal

pub returns : goal.returns
returns g c = all_told c.in_ok-lines.ensures.limit c.write_all.result (g.R.Read.remaining c.args.reader) _ _ c.in_ok-input.input.items c.in_ok-lines.lines.items (search rules) (search rules) (search rules)
