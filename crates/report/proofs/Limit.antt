-- The bytes that `least` does not read never show.
use Rattle.std.proofs.Common.{◌≡◌, ℕ, List, [], ◌∷◌, take, get_or, refl, sym, ◌∙◌, subst}
use Rattle.costs.specs.Meaning.{Meaning}
use Rattle.file.specs.Laws.{FirstBytesTell, telling_bytes}
use Rattle.file.specs.Load.{load_answer, load_after}
use Rattle.report.specs.Least.{meaning_under, SettledText, FileText, loaded, declined, Prints, LimitNeverShows}

-- files of which a load answers the same and leaves the same have the same text
same_load : (m : Meaning) (a b text : List ℕ) → load_answer m a ≡ load_answer m b → load_after m a ≡ load_after m b → FileText m a text → FileText m b text
same_load m a b text answer after (loaded e s) = loaded (sym answer ∙ e) (subst (λ c. SettledText m c text) after s)
same_load m a b _ answer after (declined e) = declined (sym answer ∙ e)

prints_same : (m : Meaning) (a b text : List ℕ) → load_answer m a ≡ load_answer m b → load_after m a ≡ load_after m b → Prints m a text → Prints m b text
prints_same m a b text answer after p = record {
  is = same_load m a b text answer after p.is;
  only = λ other q. p.only other (same_load m b a other (sym answer) (sym after) q);
}

same_letter : (bytes : List ℕ) → get_or (take telling_bytes bytes) 0 80 ≡ get_or bytes 0 80
same_letter [] = refl
same_letter (b ∷ bytes) = refl

pub limit_never_shows : FirstBytesTell → LimitNeverShows
limit_never_shows tell bytes text =
    let first = take telling_bytes bytes in
    let m = meaning_under (get_or bytes 0 80) in
    let h = tell m bytes in
    let under : ℕ → Type 0 = λ (l : ℕ). Prints (meaning_under l) first text in (
      λ p. prints_same m first bytes text h.0 h.1 (subst under (same_letter bytes) p),
      λ p. subst under (sym (same_letter bytes)) (prints_same m bytes first text (sym h.0) (sym h.1) p),
    )
