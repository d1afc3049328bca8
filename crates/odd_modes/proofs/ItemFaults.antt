-- The least rule that an item breaks, as a reference and as a declaration, and the first item that breaks one.
use Rattle.std.proofs.Common.{◌≡◌, ◌⊎◌, ◌≤◌, ◌<◌, ◌+◌, ℕ, length, get_or, take, List, [], ◌∷◌, ◌++◌, Option, Some, None, inl, inr, ⊎_elim, refl, sym, subst, ◌∙◌, ◌≢◌, ◌↔◌, Bool, true, false, not, if◌then◌else◌, is_some, ap, arith}
use Rattle.std.proofs.lemmas.Bool.{both_ways, false_from_ne_true, not-true, not_from_false, true_from_ne_false}
use Rattle.std.proofs.lemmas.List.{take_all}
use Rattle.std.proofs.lemmas.Option.{same_Some}
use Rattle.std.specs.Borrow.{Bor}
use Rattle.std.specs.Cmp.Lexicographic.{same_text}
use Rattle.std.specs.FinMap.{find, is_sorted}
use Rattle.std.specs.List.{list_any}
use Rattle.std.specs.Ordering.{ord_min}
use Rattle.std.specs.Option.{option_copied}
use Rattle.std.specs.Prelude.{IsTrue}
use Rattle.odd_content.specs.declared.content.Pick.{Pick}
use Rattle.odd_text.proofs.Least.{least_if, any_stands}
use Rattle.odd_text.specs.Least.{IsLeast}
use Rattle.odd_library.proofs.OffenceOrder.{earlier_is, fault_cmp, not_after_through}
use Rattle.odd_library.specs.Library.{module_of}
use Rattle.odd_library.specs.Odd.{place_of, element_key}
use Rattle.odd_library.specs.declared.fault.Fault.{Fault}
use Rattle.odd_library.specs.declared.library.Component.{Component}
use Rattle.odd_library.specs.declared.library.Library.{Library}
use Rattle.odd_library.specs.declared.odd.Entry.{Entry}
use Rattle.odd_library.specs.declared.odd.Entry.TheVariants as entry
use Rattle.odd_library.specs.declared.odd.OddDoc.{OddDoc}
use Rattle.odd_library.specs.declared.spec.Mode.TheVariants as mode
use Rattle.odd_library.specs.declared.spec.Spec.{Spec}
use Rattle.odd_text.specs.Key.{key_cmp}
use Rattle.odd_text.specs.Lesser.{lesser_of}
use Rattle.odd_text.specs.declared.key.Key.{Key}
use Rattle.odd_text.specs.Same.{is_same}
use Rattle.odd_text.proofs.InList.{StandsOnce, ends, nothing_stands, once_push}
use Rattle.odd_tree.proofs.PrintedTrees.{same_from}
use Rattle.odd_text.specs.Standing.{StandsIn}
use Rattle.odd_modes.proofs.HeldEntries.{held_stands, stands_held}
use Rattle.odd_modes.specs.Choosing.{IsChosen}
use Rattle.odd_modes.specs.Index.{IsFirst, fault_of, is_of_module}
use Rattle.odd_modes.specs.Offences.{ItemFault, OffendsAt, ReferenceFault, SpecFault, GivesAnotherType, IsOfModule, words_in}
use Rattle.odd_modes.specs.Offences as offences

-- faults that are the same have the same first
pub first_same : (P Q : ℕ → ℕ → Type 0) (o : Option Fault) → ((place rule : ℕ) → P place rule → Q place rule) → ((place rule : ℕ) → Q place rule → P place rule) → IsFirst P o → IsFirst Q o
first_same P Q None into back h = λ place rule q. h place rule (back place rule q)
first_same P Q (Some fault) into back h = record { is_one = into fault.at fault.rule h.is_one; first = λ place rule q. h.first place rule (back place rule q) }

-- the first of faults of two kinds is the earlier of the first of each
first_or : (P Q : ℕ → ℕ → Type 0) (a b c : Option Fault) → IsFirst P a → IsFirst Q b → c ≡ lesser_of fault_cmp a b → IsFirst (λ place rule. P place rule ⊎ Q place rule) c
first_or P Q None b c h k e =
    first_same Q (λ place rule. P place rule ⊎ Q place rule) c (λ place rule q. inr q) (λ place rule f. ⊎_elim (λ p. absurd (h place rule p)) (λ q. q) f) (subst (IsFirst Q) (sym e) k)
first_or P Q (Some one) None c h k e =
    first_same P (λ place rule. P place rule ⊎ Q place rule) c (λ place rule p. inl p) (λ place rule f. ⊎_elim (λ p. p) (λ q. absurd (k place rule q)) f) (subst (IsFirst P) (sym e) h)
first_or P Q (Some one) (Some other) c h k e =
    let fault : Fault = ord_min fault_cmp one other in
    let least = earlier_is one other in
    subst (IsFirst (λ place rule. P place rule ⊎ Q place rule)) (sym e) (record {
      is_one = ⊎_elim (λ s. inl (subst (λ f. P f.at f.rule) (sym s) h.is_one)) (λ s. inr (subst (λ f. Q f.at f.rule) (sym s) k.is_one)) least.0;
      first = λ place rule f.
          ⊎_elim (λ p. not_after_through fault.at fault.rule one.at one.rule place rule least.1 (h.first place rule p))
          (λ q. not_after_through fault.at fault.rule other.at other.rule place rule least.2 (k.first place rule q)) f;
    })

-- one of the items has such a fault, at the place where it begins
abbrev pub BreaksAt : (Entry → ℕ → Type 0) → List Entry → ℕ → ℕ → Type 0
BreaksAt F items place rule = StandsOnce (λ e. (place ≡ place_of e) × F e rule) items

-- no item has one at first
pub first_none : (F : Entry → ℕ → Type 0) → IsFirst (BreaksAt F []) None
first_none F place rule s = nothing_stands s.0 s.1

-- the least rule that an item breaks is the first of its faults
first_here : (F : ℕ → Type 0) (e : Entry) (o : Option ℕ) → IsLeast F o → IsFirst (λ place rule. (place ≡ place_of e) × F rule) (fault_of e o)
first_here F e None h = λ place rule f. h rule f.1
first_here F e (Some rule) h = record { is_one = (refl, h.0); first = λ place other f. inr (sym f.0, h.1 other f.1) }

-- the first with one item more
pub first_more : (F : Entry → ℕ → Type 0) (items : List Entry) (i : ℕ) (e : Entry) (o : Option ℕ) (a b c : Option Fault) → i < length items → e ≡ get_or items i e
    → IsFirst (BreaksAt F (take i items)) a → IsLeast (F e) o → b ≡ fault_of e o → c ≡ lesser_of fault_cmp a b → IsFirst (BreaksAt F (take (i + 1) items)) c
first_more F items i e o a b c within there h least is earlier =
    let push = λ (place rule : ℕ). once_push (λ x. (place ≡ place_of x) × F x rule) (take i items) e in
    subst (λ xs. IsFirst (BreaksAt F xs) c) (sym (ends items i e within there))
    (first_same (λ place rule. BreaksAt F (take i items) place rule ⊎ ((place ≡ place_of e) × F e rule)) (BreaksAt F (take i items ++ e ∷ [])) c
    (λ place rule f. (push place rule).1 f) (λ place rule f. (push place rule).0 f)
    (first_or (BreaksAt F (take i items)) (λ place rule. (place ≡ place_of e) × F e rule) a b c h
    (subst (IsFirst (λ place rule. (place ≡ place_of e) × F e rule)) (sym is) (first_here (F e) e o least)) earlier))

-- the faults of all items are the file's
pub first_all : (F : Entry → ℕ → Type 0) (doc : OddDoc) (items : List Entry) (i : ℕ) (o : Option Fault) → items ≡ doc.entries → length items ≤ i → IsFirst (BreaksAt F (take i items)) o
    → IsFirst (OffendsAt F doc) o
first_all F doc items i o are all h =
    first_same (BreaksAt F doc.entries) (OffendsAt F doc) o
    (λ place rule s. record { item = s.0; stands = s.1; begins = s.2.0; fault = s.2.1 })
    (λ place rule f. (f.item, f.stands, (f.begins, f.fault)))
    (subst (λ xs. IsFirst (BreaksAt F xs) o) (take_all i items all ∙ are) h)

-- an item's fault is one of a reference or of a declaration
pub first_of_both : (library : Library) (doc : OddDoc) (a b c : Option Fault) → IsFirst (OffendsAt (ReferenceFault library) doc) a → IsFirst (OffendsAt (SpecFault library doc) doc) b → c ≡ lesser_of fault_cmp a b
    → IsFirst (OffendsAt (ItemFault library doc) doc) c
first_of_both library doc a b c h k e =
    first_same (λ place rule. OffendsAt (ReferenceFault library) doc place rule ⊎ OffendsAt (SpecFault library doc) doc place rule) (OffendsAt (ItemFault library doc) doc) c
    (λ place rule f. ⊎_elim
    (λ r. record { item = r.item; stands = r.stands; begins = r.begins; fault = offences.reference r.fault })
    (λ s. record { item = s.item; stands = s.stands; begins = s.begins; fault = offences.spec s.fault }) f)
    (λ place rule f. by_kind place rule f.item f.stands f.begins f.fault)
    (first_or (OffendsAt (ReferenceFault library) doc) (OffendsAt (SpecFault library doc) doc) a b c h k e)
  where
    by_kind : (place rule : ℕ) (item : Entry) → StandsIn doc.entries item → place ≡ place_of item → ItemFault library doc item rule
        → OffendsAt (ReferenceFault library) doc place rule ⊎ OffendsAt (SpecFault library doc) doc place rule
    by_kind place rule item s at (offences.reference f) = inl (record { item = item; stands = s; begins = at; fault = f })
    by_kind place rule item s at (offences.spec f) = inr (record { item = item; stands = s; begins = at; fault = f })

-- a component of the module is held at a key where the test says so
of_module : (held : Option Component) (name : List ℕ) → (is_of_module held name ≡ true) ↔ ((part : Component) × (held ≡ Some part) × (module_of part ≡ name))
of_module None name = (λ t. cc, λ h. cc (h.1))
of_module (Some part) name =
    (λ t. (part, refl, same_text (module_of part) name (sym t)), λ h. same_from (module_of part) name (ap module_of (same_Some part h.0 h.1) ∙ h.2))

-- components of a module are held where an entry's component is of it
pub modules_held : (library : Library) (name : List ℕ) (told : Bool) → IsTrue (is_sorted key_cmp library.parts) → told ≡ list_any (λ e. is_same (module_of e.1) name) library.parts
    → IsTrue told ↔ ((key : Key) × IsOfModule library name key)
modules_held library name told up e =
    let stands = any_stands (λ (e : Key × Component). is_same (module_of e.1) name) library.parts in (
      λ t. let s = stands.0 (sym e ∙ t) in (s.0.0, (s.0.1, stands_held s.0 library.parts up s.1, same_text (module_of s.0.1) name (sym s.2))),
      λ h. e ∙ stands.1 ((h.0, h.1.0), held_stands h.0 h.1.0 library.parts h.1.1, same_from (module_of h.1.0) name h.1.2),
    )

-- a reference to a module of which no component is held
pub module_absent : (library : Library) (at : ℕ) (name : List ℕ) (p : Pick) → ((key : Key) → IsOfModule library name key → ⊥) → IsLeast (ReferenceFault library (entry.Module at name p)) (Some 7)
module_absent library at name p none = (offences.no_module none, least)
  where
    least : (rule : ℕ) → ReferenceFault library (entry.Module at name p) rule → 7 ≤ rule
    least rule (offences.no_module h) = omega arith
    least rule (offences.no_element word s h) = omega arith

-- a reference to one of which some are: a word may be no element of it
pub module_held : (library : Library) (at : ℕ) (name : List ℕ) (p : Pick) (other : Bool) → ((key : Key) × IsOfModule library name key)
    → other ≡ list_any (λ word. not (is_of_module (find key_cmp (element_key word) library.parts) name)) (words_in p)
    → IsLeast (ReferenceFault library (entry.Module at name p)) (if other then Some 8 else None)
module_held library at name p other some e = least_if (ReferenceFault library (entry.Module at name p)) other 8 into back
  where
    into : other ≡ true → ReferenceFault library (entry.Module at name p) 8
    into t =
        let s = (any_stands (λ word. not (is_of_module (find key_cmp (element_key word) library.parts) name)) (words_in p)).0 (sym e ∙ t) in
        offences.no_element s.0 s.1 (λ h. both_ways _ (not-true _ s.2) ((of_module (find key_cmp (element_key s.0) library.parts) name).1 h))

    back : (rule : ℕ) → ReferenceFault library (entry.Module at name p) rule → (other ≡ true) × (rule ≡ 8)
    back rule (offences.no_module none) = absurd (none some.0 some.1)
    back rule (offences.no_element word s none) = (
      e ∙ (any_stands (λ word. not (is_of_module (find key_cmp (element_key word) library.parts) name)) (words_in p)).1
          (word, s, not_from_false _ (false_from_ne_true _ (λ t. none ((of_module (find key_cmp (element_key word) library.parts) name).0 t)))),
      refl,
    )

-- a reference to one component
pub taken_held : (library : Library) (at : ℕ) (key : Key) (absent : Bool) → is_some (find key_cmp key library.parts) ≡ not absent
    → IsLeast (ReferenceFault library (entry.Take at key)) (if absent then Some 6 else None)
taken_held library at key absent e = least_if (ReferenceFault library (entry.Take at key)) absent 6 (λ t. offences.not_held (none_held (find key_cmp key library.parts) (e ∙ ap not t))) back
  where
    none_held : (held : Option Component) → is_some held ≡ false → held ≡ None
    none_held None h = refl
    none_held (Some part) h = cc

    back : (rule : ℕ) → ReferenceFault library (entry.Take at key) rule → (absent ≡ true) × (rule ≡ 6)
    back rule (offences.not_held none) = (true_from_ne_false absent (λ f. both_ways _ (ap is_some none) (e ∙ ap not f)), refl)

-- a declaration that adds
pub spec_added : (library : Library) (doc : OddDoc) (at : ℕ) (spec : Spec) (chosen : Bool) → spec.mode ≡ mode.Add → IsTrue chosen ↔ IsChosen library doc spec.key
    → IsLeast (SpecFault library doc (entry.Spec at spec)) (if chosen then Some 5 else None)
spec_added library doc at spec chosen adds told = least_if (SpecFault library doc (entry.Spec at spec)) chosen 5 (λ t. offences.chosen adds (told.0 t)) back
  where
    back : (rule : ℕ) → SpecFault library doc (entry.Spec at spec) rule → (chosen ≡ true) × (rule ≡ 5)
    back rule (offences.chosen m is) = (told.1 is, refl)
    back rule (offences.not_chosen m none) = absurd (m adds)
    back rule (offences.another_type m is other) = let no_add : mode.Change ≡ mode.Add = sym m ∙ adds in cc

-- and one that changes, deletes or replaces what is not chosen
pub spec_not_chosen : (library : Library) (doc : OddDoc) (at : ℕ) (spec : Spec) → spec.mode ≢ mode.Add → (IsChosen library doc spec.key → ⊥)
    → IsLeast (SpecFault library doc (entry.Spec at spec)) (Some 6)
spec_not_chosen library doc at spec no_add none = (offences.not_chosen no_add none, least)
  where
    least : (rule : ℕ) → SpecFault library doc (entry.Spec at spec) rule → 6 ≤ rule
    least rule (offences.chosen m is) = absurd (none is)
    least rule (offences.not_chosen m other) = omega arith
    least rule (offences.another_type m is other) = absurd (none is)

-- one that changes what is chosen
pub spec_changed : (library : Library) (doc : OddDoc) (at : ℕ) (spec : Spec) (another : Bool) → spec.mode ≡ mode.Change → IsChosen library doc spec.key
    → IsTrue another ↔ GivesAnotherType library spec → IsLeast (SpecFault library doc (entry.Spec at spec)) (if another then Some 9 else None)
spec_changed library doc at spec another changes chosen told = least_if (SpecFault library doc (entry.Spec at spec)) another 9 (λ t. offences.another_type changes chosen (told.0 t)) back
  where
    back : (rule : ℕ) → SpecFault library doc (entry.Spec at spec) rule → (another ≡ true) × (rule ≡ 9)
    back rule (offences.chosen m is) = let both : mode.Change ≡ mode.Add = sym changes ∙ m in cc
    back rule (offences.not_chosen m none) = absurd (none chosen)
    back rule (offences.another_type m is other) = (told.1 other, refl)

-- what is lent of a component that is held
pub copied_held : (lent : Option (Bor Component)) → is_some (option_copied lent) ≡ is_some lent
copied_held None = refl
copied_held (Some part) = refl
