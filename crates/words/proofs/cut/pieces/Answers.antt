use Rattle.std.proofs.Common.{rules, tests}
use Rattle.std.proofs.lemmas.Iterator.Consumers.{map_from_collect, YieldsList-at, YieldsList-from_filter}
use Rattle.std.proofs.lemmas.Iterator.Splits.{YieldsList-from_slice_split}
use Rattle.words.proofs.Cutting.{pieces_split, cuts_apart, is_some_run}
use Rattle.words.proofs.cut.pieces.Goals as goal

pub returns-clause-made : goal.returns-clause-made
returns-clause-made g c =
    let sep = g.S.Separator.separates in
    let bs = c.args.bytes.now in
    rw (pieces_split sep bs)
    (map_from_collect _ c.collect.ensures.ran
    (YieldsList-from_filter _ is_some_run
    (YieldsList-at c.filter.ensures.source (YieldsList-from_slice_split _ sep bs c.split.ensures.rest c.split.ensures.done c.split.ensures.closure (λ x r q k. search (rules, tests))))
    c.filter.ensures.closure
    (λ x r q k. search (rules, tests))))

pub returns-clause-cuts : goal.returns-clause-cuts
returns-clause-cuts g c = cuts_apart g.S.Separator.separates
