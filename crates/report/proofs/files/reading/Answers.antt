use Rattle.std.proofs.Common.{List, replicate, subst, arith}
use Rattle.std.proofs.lemmas.List.{length-replicate}
use Rattle.board.specs.declared.moves.Move.{Move}
use Rattle.board.specs.Boards.{settled_content, settled_defined, settled_sound}
use Rattle.board.specs.Settling.{bare, Record, RecordedReading}
use Rattle.board.specs.Computing.{settled_log}
use Rattle.board.specs.Meanings.{WritesCheapest, WritingDeclined}
use Rattle.report.proofs.Showing.{if_ok, told_none, told_declined, front_held, printed}
use Rattle.report.proofs.files.reading.Goals as goal

pub returns-in-Err : goal.returns-in-Err
returns-in-Err g c = if_ok (told_none c.in-Err.ensures.means) c.format.result c.format.ensures.ok

pub returns-in-Err-moves : goal.returns-in-Err-moves
returns-in-Err-moves g c =
    let m = g.K.Kind.meaning in
    let s = c.args.settled.now in
    let buffer : List Move = replicate 4096 (bare 0) in
    let why : WritingDeclined m (settled_content s) (settled_log m (settled_content s)) buffer c.in-Err-moves.refusal =
    subst (λ (l : List Record). WritingDeclined m (settled_content s) l buffer c.in-Err-moves.refusal) (settled_defined s) c.in-Err-moves.ensures.means.0 in
    if_ok (told_declined buffer (omega (arith, length-replicate {A = Move} 4096 (bare 0))) why) c.format-in-Err-moves.result c.format-in-Err-moves.ensures.ok

pub push_moves-requires : goal.push_moves-requires
push_moves-requires g c =
    let m = g.K.Kind.meaning in
    let s = c.args.settled.now in
    let buffer : List Move = replicate 4096 (bare 0) in
    let w : WritesCheapest (λ v. v) m (settled_content s) (settled_log m (settled_content s)) buffer c.in-Ok-moves.n c.moves.new.buffer =
    subst (λ (l : List Record). WritesCheapest (λ v. v) m (settled_content s) l buffer c.in-Ok-moves.n c.moves.new.buffer) (settled_defined s) c.in-Ok-moves.ensures.means in
    front_held g.met.K.Kind.lawful c.board_theorems.ensures.calls_and_settling (settled_sound s) buffer c.moves.new.buffer c.in-Ok-moves.n w

pub returns : goal.returns
returns g c =
    let m = g.K.Kind.meaning in
    let s = c.args.settled.now in
    let buffer : List Move = replicate 4096 (bare 0) in
    let w : WritesCheapest (λ v. v) m (settled_content s) (settled_log m (settled_content s)) buffer c.in-Ok-moves.n c.moves.new.buffer =
    subst (λ (l : List Record). WritesCheapest (λ v. v) m (settled_content s) l buffer c.in-Ok-moves.n c.moves.new.buffer) (settled_defined s) c.in-Ok-moves.ensures.means in
    let cheapest = c.in-Ok.ensures.means in
    let recorded : RecordedReading m (settled_content s) (settled_log m (settled_content s)) c.in-Ok.cost cheapest.reading =
    subst (λ (l : List Record). RecordedReading m (settled_content s) l c.in-Ok.cost cheapest.reading) (settled_defined s) cheapest.recorded in
    printed g.met.K.Kind.lawful c.board_theorems.ensures.calls_and_settling (settled_sound s) buffer c.moves.new.buffer c.in-Ok-moves.n w _ _ recorded (omega (arith, length-replicate {A = Move} 4096 (bare 0))) c.in_ok-out.ensures c.in_ok-push_moves.ensures
