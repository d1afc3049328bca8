-- The order of offences by place and rule, and keys that tie.
use Rattle.std.proofs.Common.{◌≡◌, ◌⊎◌, ℕ, inl, inr, ◌∙◌, arith, true, refl, sym, cond}
use Rattle.std.specs.Cmp.{ranked}
use Rattle.std.specs.Ordering.{eq_by_cmp, is_lt, nat_cmp, ord_min, ordering_then}
use Rattle.std.specs.declared.cmp.Ordering.{Ordering}
use Rattle.std.specs.declared.cmp.Ordering.TheVariants.{Less, Equal, Greater}
use Rattle.odd_text.specs.Key.{key_cmp}
use Rattle.odd_text.specs.KeyOrder.{tied_is_same}
use Rattle.odd_text.specs.declared.key.Key.{Key}
use Rattle.odd_library.specs.First.{IsNotAfter}
use Rattle.odd_library.specs.declared.fault.Fault.{Fault}

-- faults by place and then by rule
abbrev pub fault_cmp : Fault → Fault → Ordering
fault_cmp a b = ordering_then (nat_cmp a.at b.at) (nat_cmp a.rule b.rule)

-- the fault is one of the two, and neither is before it
abbrev pub IsEarlier : Fault → Fault → Fault → Type 0
IsEarlier one other fault =
    ((fault ≡ one) ⊎ (fault ≡ other)) × IsNotAfter fault.at fault.rule one.at one.rule × IsNotAfter fault.at fault.rule other.at other.rule

-- the lesser of two faults is the earlier
pub earlier_is : (one other : Fault) → IsEarlier one other (ord_min fault_cmp one other)
earlier_is one other =
    elim (nat_cmp other.at one.at) as (λ r. r ≡ nat_cmp other.at one.at → IsEarlier one other (cond (is_lt (ordering_then r (nat_cmp other.rule one.rule))) other one)) [
      | Less ↦ λ e. (inr refl, inl (ranked other.at one.at Less e), inr (refl, omega arith))
      | Equal ↦ λ e. by_rule (ranked other.at one.at Equal e)
      | Greater ↦ λ e. (inl refl, inr (refl, omega arith), inl (ranked other.at one.at Greater e))
    ] refl
  where
    by_rule : other.at ≡ one.at → IsEarlier one other (cond (is_lt (nat_cmp other.rule one.rule)) other one)
    by_rule same =
        elim (nat_cmp other.rule one.rule) as (λ r. r ≡ nat_cmp other.rule one.rule → IsEarlier one other (cond (is_lt r) other one)) [
          | Less ↦ λ e. let h = ranked other.rule one.rule Less e in (inr refl, inr (same, omega (arith, h)), inr (refl, omega arith))
          | Equal ↦ λ e. let h = ranked other.rule one.rule Equal e in (inl refl, inr (refl, omega arith), inr (sym same, omega (arith, h)))
          | Greater ↦ λ e. let h = ranked other.rule one.rule Greater e in (inl refl, inr (refl, omega arith), inr (sym same, omega (arith, h)))
        ] refl

-- two offences, neither of which comes after the other, are one
pub neither_after : (p r q s : ℕ) → IsNotAfter p r q s → IsNotAfter q s p r → (p ≡ q) × (r ≡ s)
neither_after p r q s (inl a) (inl b) = omega (arith, a, b)
neither_after p r q s (inl a) (inr b) = let e = b.0 in omega (arith, a, e)
neither_after p r q s (inr a) (inl b) = let e = a.0 in omega (arith, b, e)
neither_after p r q s (inr a) (inr b) = let h = a.1 in let k = b.1 in (a.0, omega (arith, h, k))

-- by place and then by rule: what is not before one is not before another that is not before it
pub not_after_through : (place rule between between_rule other others_rule : ℕ) → IsNotAfter place rule between between_rule → IsNotAfter between between_rule other others_rule
    → IsNotAfter place rule other others_rule
not_after_through place rule between between_rule other others_rule (inl h) (inl k) = inl (omega arith)
not_after_through place rule between between_rule other others_rule (inl h) (inr k) = inl (omega (arith, k.0))
not_after_through place rule between between_rule other others_rule (inr h) (inl k) = inl (omega (arith, h.0))
not_after_through place rule between between_rule other others_rule (inr h) (inr k) = inr (h.0 ∙ k.0, omega (arith, h.1, k.1))

-- keys that tie are one key
pub same_key : (a b : Key) → eq_by_cmp key_cmp a b ≡ true → a ≡ b
same_key a b h = (tied_is_same a b (key_cmp a b) refl).0 h

-- one key ties with itself
pub key_itself : (a b : Key) → a ≡ b → eq_by_cmp key_cmp a b ≡ true
key_itself a b e = (tied_is_same a b (key_cmp a b) refl).1 e
