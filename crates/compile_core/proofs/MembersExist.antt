-- A library that breaks no rule has members of its classes, and it is decided who they are.
use Rattle.std.proofs.Common.{◌⊎◌, Bool, true, false, List, [], ◌∷◌, inl, inr, refl, subst, ◌≡◌, ℕ, Option, Some, None, length, map, sym, ◌∙◌, arith, ◌&&◌, filter, ap}
use Rattle.std.proofs.lemmas.Bool.{false≢true, and_from, and_parts}
use Rattle.std.proofs.lemmas.Cmp.{nat_list_cmp_total}
use Rattle.std.specs.Bool.{Decides}
use Rattle.std.specs.FinMap.{find, nat_cmp-IsAntisymmetric, slice_cmp-IsAntisymmetric}
use Rattle.std.specs.Option.{is_some}
use Rattle.std.specs.Ordering.{is_eq}
use Rattle.compile_defines.proofs.Standing.{held_stands, filter_passed, stands_filter, element_found}
use Rattle.compile_defines.specs.Contents.{holds_element}
use Rattle.compile_defines.proofs.NamedDefines.{entry_stands}
use Rattle.odd_text.proofs.SetOf.{set_of_is}
use Rattle.odd_text.specs.Sorted.{IsSet, set_of}
use Rattle.odd_graph.proofs.Chains.{first_step, last_step, by_rank}
use Rattle.odd_graph.specs.Graph.{Chained, at_once, through}
use Rattle.odd_library.specs.Odd.{element_key}
use Rattle.odd_library.specs.declared.library.ClassPart.{ClassPart}
use Rattle.odd_library.specs.declared.library.Component.{Component}
use Rattle.odd_library.specs.declared.library.Component.TheVariants as component
use Rattle.odd_library.specs.declared.library.Library.{Library}
use Rattle.odd_meaning.specs.Classes.{IsMember, AreMembers, IsElementOf, IsListed, Members}
use Rattle.odd_meaning.specs.Links.{IsHeld, IsLinked, class_key, classes_of, memberships}
use Rattle.odd_meaning.specs.Rules.{Breaks, own_member}
use Rattle.odd_text.specs.Key.{key_cmp}
use Rattle.odd_text.specs.KeyOrder.{key_total, key_exact, tied_is_same}
use Rattle.odd_text.specs.Text.{text_cmp}
use Rattle.odd_text.specs.declared.key.Key.{Key}
use Rattle.odd_text.proofs.InList.{StandsOnce, first_or_later, nothing_stands, stands_first, stands_later, map_stands, stands_map}
use Rattle.odd_text.specs.Standing.{StandsIn}

-- a test tells it
abbrev pub IsDecided : Type 0 → Type 0
IsDecided P = (b : Bool) × Decides b P

-- what does not hold is decided
pub none_decided : (P : Type 0) → (P → ⊥) → IsDecided P
none_decided P fails = (false, (λ e. absurd (false≢true e), λ p. absurd (fails p)))

-- what comes to what is decided is decided
pub same_decided : (P Q : Type 0) → (P → Q) → (Q → P) → IsDecided P → IsDecided Q
same_decided P Q there back d = (d.0, (λ e. there (d.1.0 e), λ q. d.1.1 (back q)))

-- one or the other
pub either_decided : (P Q : Type 0) → IsDecided P → IsDecided Q → IsDecided (P ⊎ Q)
either_decided P Q (true, d) other = (true, (λ e. inl (d.0 e), λ h. refl))
either_decided P Q (false, d) other = (other.0, (λ e. inr (other.1.0 e), λ h. elim h [ inl p ↦ absurd (false≢true (d.1 p)) | inr q ↦ other.1.1 q ]))

-- the one, and the other that is decided where the one holds
pub both_decided : (P Q : Type 0) → IsDecided P → (P → IsDecided Q) → IsDecided (P × Q)
both_decided P Q (true, d) other = let q = other (d.0 refl) in (q.0, (λ e. (d.0 refl, q.1.0 e), λ h. q.1.1 h.1))
both_decided P Q (false, d) other = (false, (λ e. absurd (false≢true e), λ h. d.1 h.0))

-- one of the items of a list
pub once_decided : {A : Type 0} (Is : A → Type 0) (xs : List A) → ((x : A) → StandsIn xs x → IsDecided (Is x)) → IsDecided (StandsOnce Is xs)
once_decided Is [] each = none_decided (StandsOnce Is []) (λ s. nothing_stands s.0 s.1)
once_decided Is (x ∷ xs) each =
    same_decided (Is x ⊎ StandsOnce Is xs) (StandsOnce Is (x ∷ xs))
    (λ h. elim h [ inl is ↦ (x, stands_first x xs, is) | inr s ↦ (s.0, stands_later x s.0 xs s.1, s.2) ])
    (λ s. elim (first_or_later x s.0 xs s.1) [ inl same ↦ inl (subst Is same s.2) | inr later ↦ inr (s.0, later, s.2) ])
    (either_decided (Is x) (StandsOnce Is xs) (each x (stands_first x xs)) (once_decided Is xs (λ y s. each y (stands_later x y xs s))))

module _ (library : Library) where
  abbrev Step : Key → Key → Type 0
  Step = IsLinked classes_of library

  abbrev keys : List Key
  keys = map (λ (e : Key × Component). e.0) library.parts

  -- a key at which something is held is one of an entry
  held_key : (key : Key) → IsHeld library key → StandsIn keys key
  held_key key h = by (find key_cmp key library.parts) refl h
    where
      by : (o : Option Component) → find key_cmp key library.parts ≡ o → is_some o ≡ true → StandsIn keys key
      by None e h = cc
      by (Some part) e h = map_stands (λ (entry : Key × Component). entry.0) library.parts (key, part) (held_stands key_cmp key_total key_exact key part library.parts e)

  chained_key : (key other : Key) → Chained Step key other → StandsIn keys other
  chained_key key other k = let s = last_step Step key other k in held_key other s.1.other_held

  module _ (target : Key) where
    -- a key that a component names leads to the target
    abbrev IsOn : Key → Type 0
    IsOn other = IsHeld library other × ((other ≡ target) ⊎ Chained Step other target)

    among : (key : Key) (part : Component) (other : Key) → find key_cmp key library.parts ≡ Some part → Step key other → StandsIn (classes_of part) other
    among key part other e s =
        let found : Some s.part ≡ Some part = sym s.held ∙ e in
        let same : s.part ≡ part = cc in
        subst (λ p. StandsIn (classes_of p) other) same s.among

    named_chained : (key : Key) (part : Component) → find key_cmp key library.parts ≡ Some part → StandsOnce IsOn (classes_of part) → Chained Step key target
    named_chained key part e (other, s, h) =
        let step : Step key other = record { part = part; held = e; among = s; other_held = h.0 } in
        elim h.1 [ inl same ↦ at_once (subst (Step key) same step) | inr k ↦ through other step k ]

    chained_named : (key : Key) (part : Component) → find key_cmp key library.parts ≡ Some part → Chained Step key target → StandsOnce IsOn (classes_of part)
    chained_named key part e (at_once s) = (target, among key part target e s, (s.other_held, inl refl))
    chained_named key part e (through between s k) = (between, among key part between e s, (s.other_held, inr k))

    -- it is decided whether a key leads to the target, where it is of each to which it has a step
    next_decided : (n : ℕ) (key : Key) → ((other : Key) → Step key other → IsDecided (Chained Step other target)) → IsDecided (Chained Step key target)
    next_decided n key rest = by (find key_cmp key library.parts) refl
      where
        by : (o : Option Component) → find key_cmp key library.parts ≡ o → IsDecided (Chained Step key target)
        by None e = none_decided (Chained Step key target) (λ k. let s = first_step Step key target k in let no : None ≡ Some s.1.part = sym e ∙ s.1.held in cc)
        by (Some part) e =
            same_decided (StandsOnce IsOn (classes_of part)) (Chained Step key target) (named_chained key part e) (chained_named key part e)
            (once_decided IsOn (classes_of part) (λ other s.
            both_decided (IsHeld library other) ((other ≡ target) ⊎ Chained Step other target) (is_some (find key_cmp other library.parts), (λ h. h, λ h. h))
            (λ h. either_decided (other ≡ target) (Chained Step other target) (is_eq (key_cmp other target), tied_is_same other target (key_cmp other target) refl)
            (rest other (record { part = part; held = e; among = s; other_held = h })))))

  -- no class is a member of itself
  apart : ((key : Key) (rule : ℕ) → Breaks library key rule → ⊥) → (key other : Key) → Chained Step key other → Chained Step other other → ⊥
  apart unbroken key other k back =
      let s = (last_step Step key other k).1 in
      let class = stands_map class_key (memberships s.part) other s.among in
      unbroken (class_key class.0) 13 (own_member class.0 (subst (λ x. Chained Step x x) class.2 back))

  -- so it is decided of each component and each class
  pub member_decided : ((key : Key) (rule : ℕ) → Breaks library key rule → ⊥) → (class : List ℕ) (key : Key) → IsDecided (IsMember library class key)
  member_decided unbroken class key =
      let target = class_key class in
      by_rank Step (λ n one. IsDecided (Chained Step one target)) (next_decided target) (length keys) keys key (omega arith) (chained_key key) (apart unbroken key)

module _ (library : Library) (unbroken : (key : Key) (rule : ℕ) → Breaks library key rule → ⊥) where
  -- an ident of a held element that is a member of the class
  abbrev is_in : List ℕ → List ℕ → Bool
  is_in class ident = holds_element library ident && (member_decided library unbroken class (element_key ident)).0

  abbrev idents : List (List ℕ)
  idents = map (λ (e : Key × Component). e.0.ident) library.parts

  -- the members of a class in rising order
  abbrev members_of : List ℕ → List (List ℕ)
  members_of class = set_of text_cmp (filter (is_in class) idents)

  members_set : (class : List ℕ) → IsSet text_cmp (IsElementOf library class) (members_of class)
  members_set class =
      let set = set_of_is text_cmp nat_list_cmp_total (slice_cmp-IsAntisymmetric nat_cmp-IsAntisymmetric) (filter (is_in class) idents) in
      record {
        rising = set.rising;
        none_else = λ ident s.
            let passed = and_parts _ _ (filter_passed (is_in class) idents ident (set.none_else ident s)) in
            let at = element_found library ident passed.0 in
            record { part = at.0; held = at.1; member = (member_decided library unbroken class (element_key ident)).1.0 passed.1 };
        each = λ ident h.
            let stands = map_stands (λ (e : Key × Component). e.0.ident) library.parts (element_key ident, component.Element h.part) (entry_stands library (element_key ident) (component.Element h.part) h.held) in
            let holds : holds_element library ident ≡ true = rw h.held refl in
            set.each ident (stands_filter (is_in class) idents ident stands (and_from _ _ holds ((member_decided library unbroken class (element_key ident)).1.1 h.member)));
      }

  -- where the class is one of type `model`
  by_gives : (class : List ℕ) (part : ClassPart) (gives : Bool) → part.gives ≡ gives → find key_cmp (class_key class) library.parts ≡ Some (component.Class part)
      → (o : Option (List (List ℕ))) × IsListed library class o
  by_gives class part false g e = (Some (members_of class), (record { part = part; held = e; gives = g }, members_set class))
  by_gives class part true g e = (
    None,
    λ is.
        let found : Some (component.Class is.part) ≡ Some (component.Class part) = sym is.held ∙ e in
        let same : is.part ≡ part = cc in
        absurd (false≢true (sym is.gives ∙ ap (λ (p : ClassPart). p.gives) same ∙ g)),
  )

  -- what is listed of a class
  listed : (class : List ℕ) → (o : Option (List (List ℕ))) × IsListed library class o
  listed class = by (find key_cmp (class_key class) library.parts) refl
    where
      none : (found : Option Component) → find key_cmp (class_key class) library.parts ≡ found → ((part : ClassPart) → found ≡ Some (component.Class part) → ⊥) → (o : Option (List (List ℕ))) × IsListed library class o
      none found e apart = (None, λ is. apart is.part (sym e ∙ is.held))

      by : (found : Option Component) → find key_cmp (class_key class) library.parts ≡ found → (o : Option (List (List ℕ))) × IsListed library class o
      by (Some (component.Class part)) e = by_gives class part part.gives refl e
      by None e = none None e (λ part f. cc)
      by (Some (component.Element other)) e = none (Some (component.Element other)) e (λ part f. cc)
      by (Some (component.Macro other)) e = none (Some (component.Macro other)) e (λ part f. cc)
      by (Some (component.Datatype other)) e = none (Some (component.Datatype other)) e (λ part f. cc)

  pub members_exist : (members : Members) × AreMembers library members
  members_exist = ((λ class. (listed class).0), λ class. (listed class).1)
