-- The marked examples M1 to M12, from the lemmas of the crates that they concern. Assumes nothing.
use mathlib.Core.Path.{◌≡◌, refl, ap, ◌∙◌}
use mathlib.Core.List.{List, [], ◌∷◌}
use Prim.Native.Nat.{ℕ}
use lib.Ieee.{Float}
use Rattle.base.specs.Loops.{table}
use Rattle.float.specs.Floats.{f64}
use Rattle.float.proofs.Marked.{m12}
use Rattle.std.specs.Prelude.{Ok}
use Rattle.frame.specs.Refusals.{lowest_of, cell_held, side_tests, sides_wrong, side}
use Rattle.frame.proofs.Given.{answer_number}
use Rattle.frame.specs.declared.refusals.Refusal.TheVariants.{NoLayout}
use Rattle.markers.specs.Promises.{cell_tests}
use Rattle.markers.proofs.Marked as markers
use Rattle.blobs.specs.Patches.{patch_at, PatchList}
use Rattle.blobs.proofs.Masks as masks
use Rattle.blobs.proofs.Unique.{lists_equal}
use Rattle.candidates.proofs.Marked as probes
use Rattle.radial.specs.Lens.{radial, new_lens}
use Rattle.radial.proofs.Marked.{m11}
use Rattle.geometry.proofs.Given.{refused_as, passed_as}
use Rattle.geometry.specs.Marked.{Marked, Labelled, mask7, mask8, list7, list8, blob}

-- a cell within its limit has its number
held9 : lowest_of (cell_tests 9) ≡ 0
unfolding lowest_of cell_tests cell_held
held9 = refl

held10 : lowest_of (cell_tests 10) ≡ 0
unfolding lowest_of cell_tests cell_held
held10 = refl

held13 : lowest_of (cell_tests 13) ≡ 0
unfolding lowest_of cell_tests cell_held
held13 = refl

-- the records of a mask are those of any list of its patches
labelled : (m j : List ℕ) (o : ℕ) (firsts : List ℕ) → PatchList m 3 j j o firsts → Labelled m (table (patch_at j) o)
labelled m j o firsts p a b n waited h = (lists_equal m 3 h.records p).2

three : Labelled mask7 (blob 1 0 0 0 0 0 0 4 ∷ blob 1 2 0 2 0 2 0 4 ∷ blob 3 2 5 0 1 1 2 8 ∷ [])
unfolding table patch_at
three = labelled mask7 list7 3 (0 ∷ 2 ∷ 4 ∷ []) masks.m7

single : Labelled mask8 (blob 7 7 8 0 0 2 2 16 ∷ [])
unfolding table patch_at
single = labelled mask8 list8 1 (0 ∷ []) masks.m8_list

sides : lowest_of (side_tests 60 80) ≡ 0
unfolding lowest_of side_tests sides_wrong side
sides = refl

lens_is : (k : Float) → (new_lens 60 80 k ≡ Ok (radial 60 80 k)) × ((radial 60 80 k).norm ≡ f64 50)
unfolding new_lens
lens_is k = (passed_as _ _ sides, m11 k)

pub marked : Marked
marked =
    record {
      m1 = (passed_as _ _ held9 ∙ ap Ok markers.m1.0, passed_as _ _ held9 ∙ ap Ok markers.m1.1, passed_as _ _ held9 ∙ ap Ok markers.m1.2);
      m2 = (passed_as _ _ held10 ∙ ap Ok markers.m2.0, passed_as _ _ held10 ∙ ap Ok markers.m2.1, passed_as _ _ held10 ∙ ap Ok markers.m2.2);
      m3 = (passed_as _ _ held13 ∙ ap Ok markers.m3.0, passed_as _ _ held13 ∙ ap Ok markers.m3.1, passed_as _ _ held13 ∙ ap Ok markers.m3.2);
      m4 = passed_as _ _ markers.m4_accepted ∙ ap Ok markers.m4;
      m5 = refused_as NoLayout (answer_number _ _ ∙ markers.m5);
      m6 = refused_as NoLayout (answer_number _ _ ∙ markers.m6);
      m7 = (masks.m7, three);
      m8 = (masks.m8_list, single);
      m9 = (λ s e a. probes.fourteen_pass s e.0 e.1 a.0 a.1 a.2, λ s e. probes.thirteen_fail s e.0 e.1);
      m10 = λ s e. probes.seven_fail s e.0 e.1;
      m11 = lens_is;
      m12 = m12;
    }
