use Rattle.std.proofs.Common.{◌≡◌, ℕ, List, get_or, ◌+◌, [], ◌++◌, map, drop, vec_items, sym, ap, ◌∙◌, arith}
use Rattle.std.specs.Borrow.{Bor}
use Rattle.std.specs.List.{flat_map}
use Rattle.std.proofs.lemmas.List.{get_or-map, length-map}
use Rattle.price.specs.Printed.{line_printed}
use Rattle.price.proofs.Printing.{appended, line_next}
use Rattle.price.proofs.text.price_lines.Goals as goal

pub loop-line-preserved : goal.loop-line-preserved
loop-line-preserved c =
    let lines = c.as_slice-line-items.result.now in
    let i = c.loop-line.line-index in
    let out = vec_items c.loop-line.out in
    let nowhere : Bor (List ℕ) = record { ref_ptr = (0, 0); now = [] } in
    let here = get_or-map (λ x. x.now) lines i nowhere [] c.loop-line-test.true in
    let pushed : vec_items c.push_answer.new.out ≡ out ++ line_printed (get_or (map (λ x. x.now) lines) i []) = appended out _ (get_or lines i nowhere).now _ c.line_answer.ensures.made c.in_ok-push_answer.ensures ∙ ap (λ l. out ++ line_printed l) (sym here) in
    ap (λ o. o ++ flat_map line_printed (drop (i + 1) (map (λ x. x.now) lines))) pushed
    ∙ line_next (map (λ x. x.now) lines) i out (omega (arith, length-map lines (λ x. x.now)))
    ∙ c.loop-line.invariant
