-- The list is not too long, and with what is left of the words it is what all of them list.
use Rattle.std.proofs.Common.{◌≡◌, ◌≤◌, map, drop, vec_items, vec_len}
use Rattle.script.specs.Forms.{longest_list}
use Rattle.script.specs.Repeats.{repeats_of, not_too_long, moves_of}
use Rattle.script.proofs.Repeating.{after}
use Rattle.script.proofs.check.moves.Given as goal

abbrev pub invariant-loop-word : goal.invariant-loop-word
invariant-loop-word l = (vec_len l.list ≤ longest_list) × (not_too_long (after (vec_items l.list) (repeats_of (drop l.word-index (map (λ x. x.now) l.words)))) ≡ moves_of (map (λ x. x.now) l.words))
