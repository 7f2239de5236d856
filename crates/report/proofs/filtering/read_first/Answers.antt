use Rattle.std.proofs.Common.{ℕ, List, ◌++◌, take, IfSome, ◌≡◌, subst}
use Rattle.std.specs.Option.{option_map}
use Rattle.report.proofs.Streams.{first_read}
use Rattle.report.proofs.filtering.read_first.Goals as goal

pub returns : goal.returns
returns g c =
    let t = c.take.result in
    let read = subst (λ r. IfSome (option_map (take t.limit) (g.R.Read.remaining r)) (λ (xs : List ℕ). c.read_to_end.new.buf.items ≡ c.new-input.result.items ++ xs)) c.take.ensures.inner c.in_ok-read_to_end.ensures.bytes in
    first_read (g.R.Read.remaining c.args.reader) t.limit c.read_to_end.new.buf.items c.new-input.result.items c.take.ensures.limit c.new-input.ensures.items read
