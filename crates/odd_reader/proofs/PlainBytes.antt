-- Characters that pass a test, and the bytes that they are written as.
use Rattle.std.proofs.Common.{◌≡◌, ◌≢◌, ℕ, ◌<◌, ◌≤◌, Bool, true, false, ◌&&◌, ◌==◌, not, List, [], ◌∷◌, refl, sym, ◌∙◌, subst, arith, ⊎_elim, IsUtf8}
use Rattle.std.proofs.lemmas.Bool.{and_parts, and_from, cases_lt}
use Rattle.std.proofs.lemmas.Bool.Decides.{nat_tests}
use Rattle.std.proofs.lemmas.List.Folds.{list_all-append}
use Rattle.std.proofs.lemmas.Str.{encode_ascii, encodes-chars, scalars-chars}
use Rattle.std.specs.List.{list_all}
use Rattle.std.specs.Char.{IsScalar}
use Rattle.std.specs.Prelude.{encode_utf8}
use Rattle.std.specs.Str.{encode_utf8_all, chars, all_scalars}
use Rattle.odd_tokens.specs.Characters.{is_char}

high_char : (c : ℕ) → 128 ≤ c → IsScalar c → c ≢ 0xFFFE → c ≢ 0xFFFF → is_char c ≡ true
unfolding is_char
high_char c l s m n = grind (arith, nat_tests)

-- a test that each legal character from 128 on passes
module _ (p : ℕ → Bool) (high : (c : ℕ) → 128 ≤ c → is_char c ≡ true → p c ≡ true) where
  -- a byte that belongs to one that passes, but for those of the last block of the plane
  abbrev pub byte : ℕ → Bool
  byte b = p b && not (b == 0xEF)

  low : (c : ℕ) → c < 128 → list_all byte (encode_utf8 c) ≡ true → p c ≡ true
  low c l h =
      let one : list_all byte (c ∷ []) ≡ true = subst (λ bs. list_all byte bs ≡ true) (encode_ascii c l) h in
      (and_parts (p c) _ (and_parts (byte c) true one).0).0

  no_block : (bs : List ℕ) → list_all byte (0xEF ∷ bs) ≡ true → ⊥
  no_block bs h = let k : false ≡ true = (and_parts (p 0xEF) false (and_parts (p 0xEF && false) _ h).0).1 in cc k

  not_first : (c : ℕ) → list_all byte (encode_utf8 c) ≡ true → c ≢ 0xFFFE
  unfolding lib.Utf8.encode
  not_first c h e = no_block (0xBF ∷ 0xBE ∷ []) (subst (λ x. list_all byte (encode_utf8 x) ≡ true) e h)

  not_last : (c : ℕ) → list_all byte (encode_utf8 c) ≡ true → c ≢ 0xFFFF
  unfolding lib.Utf8.encode
  not_last c h e = no_block (0xBF ∷ 0xBF ∷ []) (subst (λ x. list_all byte (encode_utf8 x) ≡ true) e h)

  all_pass : (cs : List ℕ) → all_scalars cs ≡ true → list_all byte (encode_utf8_all cs) ≡ true → list_all p cs ≡ true
  all_pass [] s h = refl
  all_pass (c ∷ cs) s h =
      let q = and_parts (list_all byte (encode_utf8 c)) _ (sym (list_all-append byte (encode_utf8 c) (encode_utf8_all cs)) ∙ h) in
      let r = and_parts _ (all_scalars cs) s in
      and_from _ _ (⊎_elim (λ l. low c l q.0) (λ l. high c l (high_char c l r.0 (not_first c q.0) (not_last c q.0))) (cases_lt c 128)) (all_pass cs r.1 q.1)

  pub chars_pass : (bytes : List ℕ) → IsUtf8 bytes → list_all byte bytes ≡ true → list_all p (chars bytes) ≡ true
  chars_pass bytes u h = all_pass (chars bytes) (scalars-chars bytes u) (subst (λ bs. list_all byte bs ≡ true) (sym (encodes-chars bytes u)) h)
