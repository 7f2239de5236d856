use Rattle.std.proofs.Common.{◌≡◌, List, sym, ap, ◌∙◌, ⊎_elim, arith}
use Rattle.std.proofs.lemmas.Option.{slice_get_within}
use Rattle.std.specs.List.{slice_get}
use Rattle.board.specs.declared.cursor.Pending.{Pending}
use Rattle.board.proofs.Basics.Elements.{nth_push}
use Rattle.board.proofs.Questions.Unwinding.{call_in, step_last, call_last}
use Rattle.board.proofs.cursor.Cursor.previous.Goals as goal

pub returns-in-Step-clause-last : goal.returns-in-Step-clause-last
returns-in-Step-clause-last c =
    let s = c.args.self.now in
    let w = c.requires.walks.room in
    step_last c.requires.spells s.at (omega arith) s.stack.items c.in-Step.front c.in-Step.by c.in-Step.is

pub returns-in-Call-clause-walks : goal.returns-in-Call-clause-walks
returns-in-Call-clause-walks c =
    let s = c.args.self.now in
    let l = c.args.log.now in
    let a = c.in-Call in
    let w = c.requires.walks.room in
    let i = call_in c.requires.spells s.at (omega arith) a.front a.inside a.open a.close a.field-4 a.is in
    let pushed : Pending = record { front = a.front; row = a.open } in
    record {
      room = omega (arith, i.1, c.push.ensures.len);
      fronts = λ j p e. ⊎_elim
          (c.requires.walks.fronts j p)
          (λ (is : pushed ≡ p). let front : a.front ≡ p.front = ap (λ (x : Pending). x.front) is in omega (arith, i.0, slice_get_within _ j p e, c.push.ensures.len))
          (nth_push s.stack.items pushed j p (ap (λ (ps : List Pending). slice_get ps j) (sym c.push.ensures.items) ∙ e));
    }

pub returns-in-Call-clause-last : goal.returns-in-Call-clause-last
returns-in-Call-clause-last c =
    let s = c.args.self.now in
    let a = c.in-Call in
    let w = c.requires.walks.room in
    call_last c.requires.spells s.at (omega arith) s.stack.items c.push.new.self.items a.front a.inside a.open a.close a.field-4 a.is c.push.ensures.items
