use Rattle.file.proofs.Calls.Following.{edits, settles_it, asks_it, reopens_it}
use Rattle.file.proofs.stepping.step.Goals as goal

pub returns-in-Settle : goal.returns-in-Settle
returns-in-Settle g c =
    settles_it g.met.K.Kind.lawful c.board_theorems.ensures.calls_and_settling c.args.board c.in-Drafted.draft c.settle.result c.args.call c.args.buffer.now c.in-Drafted.is c.in-Settle.is c.settle.ensures.content

pub returns-in_default : goal.returns-in_default
returns-in_default g c =
    let e = c.edit-answer in
    edits g.met.K.Kind.lawful c.board_theorems.ensures.calls_and_settling c.args.board c.in-Drafted.draft e.new.draft c.args.call c.args.buffer.now e.result c.in-Drafted.is c.in_default.not-Settle e.ensures.after e.ensures.answer e.ensures.note

pub returns-in-Reopen : goal.returns-in-Reopen
returns-in-Reopen g c =
    reopens_it g.met.K.Kind.lawful c.board_theorems.ensures.calls_and_settling c.args.board c.in-Settled.settled c.reopen.result c.args.call c.args.buffer.now c.in-Settled.is c.in-Reopen.is c.reopen.ensures.content

pub returns-in_default-call : goal.returns-in_default-call
returns-in_default-call g c =
    let a = c.ask-answer in
    asks_it g.met.K.Kind.lawful c.board_theorems.ensures.calls_and_settling c.args.board c.in-Settled.settled c.args.call c.args.buffer.now a.result a.new.buffer c.in-Settled.is c.in_default-call.not-Reopen a.ensures.answer a.ensures.after
