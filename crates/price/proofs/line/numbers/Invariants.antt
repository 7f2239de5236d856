-- Each word gave one number, and what is left of the words gives what all of them do.
use Rattle.std.proofs.Common.{◌≡◌, map, length, drop, vec_items}
use Rattle.price.specs.Lines.{read_costs}
use Rattle.price.proofs.Reading.{after}
use Rattle.price.proofs.line.numbers.Given as goal

abbrev pub invariant-loop-word : goal.invariant-loop-word
invariant-loop-word l =
    (length (vec_items l.numbers) ≡ l.word-index) × (after (vec_items l.numbers) (read_costs (drop l.word-index (map (λ x. x.now) l.words))) ≡ read_costs (map (λ x. x.now) l.words))
