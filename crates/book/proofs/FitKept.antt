-- The fit of a record is the fit that it keeps: `FitKept` of specs/Meaning. Assumes nothing.
use mathlib.Core.Path.{◌≡◌, refl, sym, ap, ◌∙◌}
use mathlib.Core.List.{List}
use Prim.Native.Nat.{ℕ, ◌<◌}
use lib.Ieee.{Float, nan, binary64, of_bits, to_bits}
use lib.Ieee.Bits.{of_bits-to_bits}
use lib.ListN.{length, get_or}
use Rattle.base.specs.Loops.{table}
use Rattle.base.proofs.Table.{table_is, table_at}
use Rattle.book.specs.Layout.{record_of, fit_in}
use Rattle.book.specs.Meaning.{FitKept}
use Rattle.fit.specs.Numbers.{matrix_of, matrix_numbers, lens_numbers, fit_numbers, fit_of}
use Rattle.fit.specs.declared.GeometryFit.{GeometryFit}

thirteen : (t : GeometryFit) → length (fit_numbers t) ≡ 13
unfolding fit_numbers matrix_numbers lens_numbers
thirteen t = refl

by_entries : (l : List Float) → matrix_numbers l ≡ table (λ i. get_or l i nan) 9
unfolding matrix_numbers table
by_entries l = refl

nine : (l : List Float) → length l ≡ 9 → matrix_numbers l ≡ l
nine l e = by_entries l ∙ sym (table_is (λ i. get_or l i nan) 9 nan l e (λ k _. refl))

computed : (t : GeometryFit) → fit_of (fit_numbers t) ≡ record { h = record { m = matrix_numbers t.h.m }; radial = t.radial }
unfolding fit_of matrix_of fit_numbers matrix_numbers lens_numbers
computed t = refl

fit_of_numbers : (t : GeometryFit) → length t.h.m ≡ 9 → fit_of (fit_numbers t) ≡ t
fit_of_numbers t e = computed t ∙ ap (λ m. record { h = record { m = m }; radial = t.radial }) (nine t.h.m e)

pub fit_kept : FitKept
unfolding fit_in record_of
fit_kept panel camera g t e F =
    ap fit_of (sym (table_is _ 13 nan (fit_numbers t) (thirteen t) same)) ∙ fit_of_numbers t e
  where
    same : (k : ℕ) → k < 13
        → get_or (fit_numbers t) k nan ≡ of_bits binary64 (get_or (table (λ i. to_bits binary64 (get_or (fit_numbers t) i nan)) 13) k 0)
    same k h =
        sym (ap (of_bits binary64) (table_at (λ i. to_bits binary64 (get_or (fit_numbers t) i nan)) 13 k 0 h) ∙ of_bits-to_bits binary64 (get_or (fit_numbers t) k nan) (F k h))
