use Rattle.std.proofs.Common.{◌≡◌, sym, subst, rules}
use Rattle.file.specs.declared.call.Call.{Call}
use Rattle.file.specs.declared.call.Answer.TheVariants.{Loaded}
use Rattle.file.specs.Parts.{answered}
use Rattle.file.specs.Answers.{spanned, NoteStands}
use Rattle.file.proofs.Loads.Standing.{load_stands}
use Rattle.file.proofs.stepping.edit.Goals as goal

pub returns-in-Load-clause-note : goal.returns-in-Load-clause-note
returns-in-Load-clause-note g c =
    let m = g.K.Kind.meaning in
    let same : c.map.result ≡ spanned (answered c.load.result) = search rules in
    subst (λ (x : Call). NoteStands m x (Loaded c.map.result)) (sym c.in-Load.is) (load_stands m c.in-Load.bytes (answered c.load.result) _ c.map.result c.load.ensures.exact c.load.ensures.answer same)
