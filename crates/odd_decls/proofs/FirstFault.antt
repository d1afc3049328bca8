-- The first fault, by place and then by rule, from those of parts, and of items that come one after the other.
use Rattle.std.proofs.Common.{◌≡◌, ◌⊎◌, ℕ, Bool, if◌then◌else◌, IsTrue, List, [], ◌∷◌, ◌++◌, Option, Some, None, inl, inr, ⊎_elim, refl, sym, ap, subst, ◌∙◌, arith}
use Rattle.std.specs.Ordering.{ord_min}
use Rattle.odd_text.proofs.Least.{least_if, least_or, lesser_rule}
use Rattle.odd_text.specs.Least.{IsLeast}
use Rattle.odd_items.specs.declared.listing.Item.{Item}
use Rattle.odd_library.proofs.OffenceOrder.{earlier_is, fault_cmp, not_after_through}
use Rattle.odd_library.specs.First.{IsNotAfter}
use Rattle.odd_library.specs.declared.fault.Fault.{Fault}
use Rattle.odd_text.specs.Lesser.{lesser_of}
use Rattle.odd_tree.specs.declared.tree.Tree.{out-Tree}
use Rattle.odd_decls.proofs.Where.{StandsWhere, nowhere, where_push}
use Rattle.odd_decls.specs.Faults.{IsFirstIn, fault_by}

-- the lesser of two faults, where there are two
abbrev pub lesser_fault : Option Fault → Option Fault → Option Fault
lesser_fault = lesser_of fault_cmp

-- one of these is not after the fault
abbrev pub HasBefore : (ℕ → ℕ → Type 0) → ℕ → ℕ → Type 0
HasBefore P place rule = (one : ℕ) × (by : ℕ) × P one by × IsNotAfter one by place rule

-- a fault is not after itself
pub itself_before : (P : ℕ → ℕ → Type 0) (place rule : ℕ) → P place rule → HasBefore P place rule
itself_before P place rule p = (place, rule, p, inr (refl, omega arith))

-- the first of some faults is the first of more, where one of the some is not after each of the more
pub first_wider : (P Q : ℕ → ℕ → Type 0) (o : Option Fault) → ((place rule : ℕ) → P place rule → Q place rule) → ((place rule : ℕ) → Q place rule → HasBefore P place rule)
    → IsFirstIn P o → IsFirstIn Q o
first_wider P Q None into back h = λ place rule q. let b = back place rule q in h b.0 b.1 b.2
first_wider P Q (Some fault) into back h = record {
  is_one = into fault.at fault.rule h.is_one;
  first = λ place rule q.
      let b = back place rule q in
      not_after_through fault.at fault.rule b.0 b.1 place rule (h.first b.0 b.1 b.2) b.3;
}

-- faults that are the same have the same first
pub first_same : (P Q : ℕ → ℕ → Type 0) (o : Option Fault) → ((place rule : ℕ) → P place rule → Q place rule) → ((place rule : ℕ) → Q place rule → P place rule) → IsFirstIn P o → IsFirstIn Q o
first_same P Q o into back h = first_wider P Q o into (λ place rule q. itself_before P place rule (back place rule q)) h

-- the first of faults of two kinds is the lesser of the first of each
pub first_or : (P Q : ℕ → ℕ → Type 0) (a b : Option Fault) → IsFirstIn P a → IsFirstIn Q b → IsFirstIn (λ place rule. P place rule ⊎ Q place rule) (lesser_fault a b)
first_or P Q None b h k =
    first_same Q (λ place rule. P place rule ⊎ Q place rule) b (λ place rule q. inr q) (λ place rule f. ⊎_elim (λ p. absurd (h place rule p)) (λ q. q) f) k
first_or P Q (Some one) None h k =
    first_same P (λ place rule. P place rule ⊎ Q place rule) (Some one) (λ place rule p. inl p) (λ place rule f. ⊎_elim (λ p. p) (λ q. absurd (k place rule q)) f) h
first_or P Q (Some one) (Some other) h k =
    let fault : Fault = ord_min fault_cmp one other in
    let least = earlier_is one other in
    record {
      is_one = ⊎_elim (λ s. inl (subst (λ f. P f.at f.rule) (sym s) h.is_one)) (λ s. inr (subst (λ f. Q f.at f.rule) (sym s) k.is_one)) least.0;
      first = λ place rule f.
          ⊎_elim (λ p. not_after_through fault.at fault.rule one.at one.rule place rule least.1 (h.first place rule p))
          (λ q. not_after_through fault.at fault.rule other.at other.rule place rule least.2 (k.first place rule q)) f;
    }

-- the least rule of a fault, or 4 where there is one more
pub least_again : (Broken : ℕ → Type 0) (again : Bool) (own repeated least : Option ℕ) → IsLeast Broken own → repeated ≡ (if again then Some 4 else None) → least ≡ lesser_rule own repeated
    → IsLeast (λ rule. Broken rule ⊎ (IsTrue again × (rule ≡ 4))) least
least_again Broken again own repeated least h told e =
    let Again : ℕ → Type 0 = λ rule. IsTrue again × (rule ≡ 4) in
    subst (IsLeast (λ rule. Broken rule ⊎ Again rule)) (sym (e ∙ ap (lesser_rule own) told))
    (least_or Broken Again own (if again then Some 4 else None) h (least_if Again again 4 (λ t. (t, refl)) (λ other f. f)))

-- the least rule that is broken at a place gives the first of the faults there
pub first_here : (Broken : ℕ → Type 0) (at : ℕ) (o : Option ℕ) → IsLeast Broken o → IsFirstIn (λ place rule. Broken rule × (place ≡ at)) (fault_by at o)
first_here Broken at None h = λ place rule f. h rule f.0
first_here Broken at (Some rule) h = record { is_one = (h.0, refl); first = λ place other f. inr (sym f.1, h.1 other f.0) }

-- an item breaks such a rule after those before it, where it begins
abbrev pub BreaksAt : (List Item → Item → ℕ → Type 0) → List Item → ℕ → ℕ → Type 0
BreaksAt Breaks items place rule = StandsWhere (λ before item. Breaks before item rule × (place ≡ (out-Tree item.tree.now).at)) items

module _ (Breaks : List Item → Item → ℕ → Type 0) where
  -- none does in an empty list
  pub none_breaks : IsFirstIn (BreaksAt Breaks []) None
  none_breaks place rule s = nowhere (λ before item. Breaks before item rule × (place ≡ (out-Tree item.tree.now).at)) s

  -- with one item more the first fault is the lesser of the first before and its own
  pub breaks_more : (items : List Item) (item : Item) (a : Option Fault) (o : Option ℕ) → IsFirstIn (BreaksAt Breaks items) a → IsLeast (Breaks items item) o
      → IsFirstIn (BreaksAt Breaks (items ++ item ∷ [])) (lesser_fault a (fault_by (out-Tree item.tree.now).at o))
  breaks_more items item a o h least =
      let at = (out-Tree item.tree.now).at in
      let push = λ (place rule : ℕ). where_push (λ before item. Breaks before item rule × (place ≡ (out-Tree item.tree.now).at)) items item in
      first_same (λ place rule. BreaksAt Breaks items place rule ⊎ (Breaks items item rule × (place ≡ at))) (BreaksAt Breaks (items ++ item ∷ [])) (lesser_fault a (fault_by at o))
      (λ place rule f. (push place rule).1 f) (λ place rule f. (push place rule).0 f)
      (first_or (BreaksAt Breaks items) (λ place rule. Breaks items item rule × (place ≡ at)) a (fault_by at o) h (first_here (Breaks items item) at o least))

  -- and it stays where that breaks none
  pub breaks_same : (items : List Item) (item : Item) (a : Option Fault) → IsFirstIn (BreaksAt Breaks items) a → ((rule : ℕ) → Breaks items item rule → ⊥)
      → IsFirstIn (BreaksAt Breaks (items ++ item ∷ [])) a
  breaks_same items item a h none =
      let push = λ (place rule : ℕ). where_push (λ before item. Breaks before item rule × (place ≡ (out-Tree item.tree.now).at)) items item in
      first_same (BreaksAt Breaks items) (BreaksAt Breaks (items ++ item ∷ [])) a (λ place rule f. (push place rule).1 (inl f))
      (λ place rule f. ⊎_elim (λ s. s) (λ here. absurd (none rule here.0)) ((push place rule).0 f)) h
