use Rattle.std.proofs.lemmas.Slice.Eq.{strip_prefix_is}
use Rattle.words.proofs.Splitting.{stripped}
use Rattle.words.proofs.split.strip.Goals as goal
use Rattle.std.proofs.lemmas.Bool.Decides.{Decides-eqb}

pub returns : goal.returns
returns c =
    let bs = c.args.bytes.now in
    let mark = c.args.mark.now in
    stripped c.strip_prefix.result mark bs (strip_prefix_is Decides-eqb bs mark c.strip_prefix.result c.strip_prefix.ensures.cases)
