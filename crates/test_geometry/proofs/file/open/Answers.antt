-- The name of a capture file is ASCII, so it is text.
use Rattle.std.proofs.Common.{◌<◌, ℕ, zero, suc, [], ◌∷◌, refl, lit<}
use Rattle.std.specs.Prelude.{Result, Ok, Err, MatchResult, IsOk}
use Rattle.std.specs.Str.{IsAscii}
use Rattle.std.proofs.lemmas.Str.{IsUtf8-from_ascii}
use Rattle.test_geometry.proofs.file.open.Goals as goal

ok_where : {T E : Type 0} (r : Result T E) (U : Type 0) (P : T → Type 0) (Q : E → Type 0) → MatchResult r P (λ e. (¬ U) × Q e) → U → IsOk r
ok_where (Ok v) U P Q h u = refl
ok_where (Err e) U P Q h u = absurd (h.0 u)

-- one digit, or two, and `.cap`
short_name : (x : ℕ) → x < 128 → IsAscii (x ∷ 46 ∷ 99 ∷ 97 ∷ 112 ∷ [])
short_name x h zero = h
short_name x h (suc zero) = lit< tt
short_name x h (suc (suc zero)) = lit< tt
short_name x h (suc (suc (suc zero))) = lit< tt
short_name x h (suc (suc (suc (suc zero)))) = lit< tt
short_name x h (suc (suc (suc (suc (suc i))))) = lit< tt

long_name : (x y : ℕ) → x < 128 → y < 128 → IsAscii (x ∷ y ∷ 46 ∷ 99 ∷ 97 ∷ 112 ∷ [])
long_name x y h k zero = h
long_name x y h k (suc i) = short_name y k i

pub unwrap-requires : goal.unwrap-requires
unwrap-requires c = ok_where _ _ _ _ c.from_utf8.ensures.cases (IsUtf8-from_ascii _ (short_name _ c.digit.ensures))

pub unwrap-requires-2 : goal.unwrap-requires-2
unwrap-requires-2 c = ok_where _ _ _ _ c.from_utf8-2.ensures.cases (IsUtf8-from_ascii _ (long_name _ _ c.digit-2.ensures c.digit-3.ensures))
