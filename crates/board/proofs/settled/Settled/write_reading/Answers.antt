use Rattle.std.proofs.Common.{Err, arith, rules}
use Rattle.std.proofs.lemmas.Grind.{common_steps}
use Rattle.board.specs.declared.refusal.Refusal.TheVariants.{TooLong}
use Rattle.board.proofs.Questions.Answering.{path_tells}
use Rattle.board.proofs.Questions.Telling.{told_small, told_path}
use Rattle.board.proofs.settled.Settled.write_reading.Goals as goal

pub write_moves-n-requires-clause-small : goal.write_moves-n-requires-clause-small
write_moves-n-requires-clause-small g c = told_small g.met.K.Kind.lawful c.args.self.now c.in_ok-r.r (search rules) c.recorded.ensures.within

pub returns-in_err-r-clause-means : goal.returns-in_err-r-clause-means
returns-in_err-r-clause-means g c = path_tells g.met.K.Kind.lawful c.args.self.now g.F.MoveForm.form _ _ _ (search rules) (search rules)

pub returns-then-moves-buffer-clause-means : goal.returns-then-moves-buffer-clause-means
returns-then-moves-buffer-clause-means g c = path_tells g.met.K.Kind.lawful c.args.self.now g.F.MoveForm.form _ _ (Err TooLong) (grind (arith, common_steps)) (grind (arith, common_steps))

pub returns : goal.returns
returns g c =
    let x = c.args.self.now in
    let z = told_path g.met.K.Kind.lawful x c.in_ok-r.r (search rules) c.recorded.ensures.within c.recorded.ensures.which g.F.MoveForm.form c.args.buffer.now c.write_moves-n.new.out c.write_moves-n.result c.from_move.result c.if-moves-buffer.false (omega arith) c.write_moves-n.ensures.count c.write_moves-n.ensures.after c.from_move.ensures in
    record { answer = z.0; after = z.1; means = path_tells g.met.K.Kind.lawful x g.F.MoveForm.form _ _ _ z.0 z.1 }
