use Rattle.std.proofs.Common.{◌≡◌, ℕ, ◌≤◌, List, length, Some, None, Ok, Err, Option, ap, ◌∙◌, rules}
use Rattle.std.proofs.lemmas.Bool.{le-ltb}
use Rattle.std.proofs.lemmas.Result.{err_from_is_err_and}
use Rattle.costs.specs.Meaning.{Meaning}
use Rattle.board.specs.declared.refusal.Refusal.{Refusal}
use Rattle.board.specs.Refusals.{answer}
use Rattle.board.specs.Content.{Content}
use Rattle.board.specs.Calls.{size_refusal, size_after}
use Rattle.board.specs.Held.{draft_content}
use Rattle.file.specs.declared.fields.Header.{Header}
use Rattle.file.specs.declared.refusal.FileRefusal.{FileRefusal}
use Rattle.file.specs.declared.refusal.FileRefusal.TheVariants.{Board}
use Rattle.file.specs.Fields.{word4, header_read}
use Rattle.file.specs.Records.{called}
use Rattle.file.specs.Load.{opened, sized}
use Rattle.file.proofs.loading.open.Goals as goal

module _ (m : Meaning) (bs : List ℕ) (c : Content) (h : Header) (long : 4 ≤ length bs) (read : Ok h ≡ header_read m (word4 bs)) where
  refused : (e : FileRefusal) → Err e ≡ sized h c → Err e ≡ opened m bs c
  refused e s = let l = le-ltb (length bs) 4 long in rw (l, ← read, ← s)

  opens : (d : Content) → Ok d ≡ sized h c → Ok (record { content = d; trust = h.trust }) ≡ opened m bs c
  opens d s = let l = le-ltb (length bs) 4 long in rw (l, ← read, ← s)

-- what the board answered of the size
declined : (o : Option Refusal) (after : Content) (e : Refusal) → Err e ≡ answer o (tt {0}) → Err (Board e) ≡ called o after
declined None after e h = absurd cc
declined (Some r) after e h = cc

accepted : (o : Option Refusal) (d after : Content) (x : Unit {0}) → Ok x ≡ answer o (tt {0}) → d ≡ after → Ok d ≡ called o after
accepted None d after x h k = ap Ok k
accepted (Some r) d after x h k = absurd cc

module _ (c : Content) (h : Header) (a b : ℕ) (modes : a ≡ h.modes) (moments : b ≡ h.moments) where
  size_declined : (e : Refusal) → Err e ≡ answer (size_refusal c a b) (tt {0}) → Err (Board e) ≡ sized h c
  unfolding sized
  size_declined e k = declined (size_refusal c h.modes h.moments) (size_after c h.modes h.moments) e (k ∙ (λ i. answer (size_refusal c (modes i) (moments i)) (tt {0})))

  size_accepted : (d : Content) (x : Unit {0}) → Ok x ≡ answer (size_refusal c a b) (tt {0}) → d ≡ size_after c a b → Ok d ≡ sized h c
  unfolding sized
  size_accepted d x k l = accepted (size_refusal c h.modes h.moments) d (size_after c h.modes h.moments) x (k ∙ (λ i. answer (size_refusal c (modes i) (moments i)) (tt {0}))) (l ∙ (λ i. size_after c (modes i) (moments i)))

pub returns-in_err-size-clause-after : goal.returns-in_err-size-clause-after
returns-in_err-size-clause-after g c =
    let bs = c.args.left.now.bytes.now in
    let p = err_from_is_err_and c.from_residual-in_err-size.result c.from_residual-in_err-size.ensures.1 in
    let long : 4 ≤ length bs = search rules in
    let read : Ok c.in_ok-header.header ≡ header_read g.K.Kind.meaning (word4 bs) = search rules in
    let h = c.in_ok-header.header in
    let s : Err (Board c.in_err-size.field-0.0) ≡ sized h (draft_content c.args.draft.now) = size_declined (draft_content c.args.draft.now) h c.from.result c.from-2.result (search rules) (search rules) c.in_err-size.field-0.0 c.in_err-size.ensures.answer in
    rw (p.1, p.2) (refused g.K.Kind.meaning bs (draft_content c.args.draft.now) c.in_ok-header.header long read (Board c.in_err-size.field-0.0) s)

pub returns-clause-after : goal.returns-clause-after
returns-clause-after g c =
    let bs = c.args.left.now.bytes.now in
    let long : 4 ≤ length bs = search rules in
    let read : Ok c.in_ok-header.header ≡ header_read g.K.Kind.meaning (word4 bs) = search rules in
    let h = c.in_ok-header.header in
    let s : Ok (draft_content c.size.new.self) ≡ sized h (draft_content c.args.draft.now) = size_accepted (draft_content c.args.draft.now) h c.from.result c.from-2.result (search rules) (search rules) (draft_content c.size.new.self) c.in_ok-size.field-0 c.in_ok-size.ensures.answer c.size.ensures.after in
    opens g.K.Kind.meaning bs (draft_content c.args.draft.now) c.in_ok-header.header long read (draft_content c.size.new.self) s
