use Rattle.std.specs.Str.{bytes_eq}
use Rattle.std.proofs.lemmas.Slice.Eq.{bytes_eq-Decides, slice_eq-Decides}
use Rattle.std.proofs.lemmas.Bool.Decides.{same_from_decides, Decides-eqb}
use Rattle.script.specs.Names.{spells}
use Rattle.script.proofs.name.is.Goals as goal

pub returns : goal.returns
unfolding spells
returns c =
    let w = c.args.word.now in
    let t = c.args.text.now in
    same_from_decides c.eq.result (bytes_eq w t) (slice_eq-Decides Decides-eqb w t c.eq.result c.eq.ensures) (bytes_eq-Decides w t)
