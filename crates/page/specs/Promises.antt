-- What `candidate_page` does (requirements, 17). Assumes nothing.
use Rattle.std.specs.Prelude.{ℕ, ◌*◌, ◌≤◌, ◌≡◌, Bool, not, ◌&&◌, ◌||◌, List, [], ◌∷◌, ◌++◌, ltb, Float, length, drop}
use Rattle.base.specs.Loops.{every}
use Rattle.frame.specs.Refusals.{Check, check, lowest_of}
use Rattle.frame.specs.declared.refusals.Refusal.TheVariants.{AreaShort, PageShort, Unprintable}
use Rattle.candidates.specs.Ring.{candidate_length}
use Rattle.page.specs.Amounts.{widest, printable}
use Rattle.page.specs.Text.{line_length, row_at, page_text}
use Rattle.page.specs.declared.Row.{Row}

-- [17.9] no number of a line is negative, not finite or too wide for its columns
unfoldable pub row_printable : Row → Bool
row_printable r =
    printable 100 (widest 8) r.x
    && printable 100 (widest 8) r.y
    && printable 100 (widest 7) r.size
    && printable 1000 (widest 5) r.score

-- [17.9] .. of any of the first n candidates
abbrev pub every_printable : List Float → ℕ → Bool
every_printable c n = every n (λ i. row_printable (row_at c i))

-- [17.7] 3: a list shorter than its count; [17.8] 12: the page area is shorter than 37 bytes a candidate; [17.9] 13:
-- above 9,999 candidates, or a number that cannot be printed
unfoldable pub page_tests : List Float → ℕ → List ℕ → List Check
page_tests c count page =
    check AreaShort (ltb (length c) (candidate_length * count))
    ∷ check PageShort (ltb (length page) (line_length * count))
    ∷ check Unprintable (ltb 9999 count || not (every_printable c count))
    ∷ []

-- [17.1] `candidate_page`: the page area becomes page', with the refusal's number, or 0
pub record Paging (c : List Float) (count : ℕ) (page page' : List ℕ) (number : ℕ) : Type 0 where
  -- [2.12] the lowest number that applies is given
  pub given : number ≡ lowest_of (page_tests c count page)
  -- [17.6] a longer area keeps its rest
  pub accepted : lowest_of (page_tests c count page) ≡ 0 → page' ≡ page_text c count ++ drop (line_length * count) page
  -- [17.10] the page is untouched
  pub refused : 1 ≤ lowest_of (page_tests c count page) → page' ≡ page
