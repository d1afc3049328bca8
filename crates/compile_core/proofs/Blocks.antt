-- The defines of a library, kind after kind, are the set of its defines, which rise by name.
use Rattle.std.proofs.Common.{◌≡◌, ◌≤◌, ℕ, List, [], ◌∷◌, inl, inr, length, refl, sym, ap, subst, ◌∙◌, arith, Option, Some, None, ◌++◌}
use Rattle.std.proofs.lemmas.Cmp.{on_total}
use Rattle.std.specs.FinMap.{is_sorted}
use Rattle.std.specs.Prelude.{IsTrue, flat_map}
use Rattle.std.specs.declared.cmp.Ordering.TheVariants.{Less}
use Rattle.compile_defines.proofs.Collected.{collected_stands, each_of_both, stands_collected}
use Rattle.compile_defines.proofs.Standing.{found, stands_left, stands_right}
use Rattle.odd_content.specs.ConditionOrder.{condition_cmp}
use Rattle.compile_defines.specs.Conditions.{IsConditionOf}
use Rattle.compile_defines.specs.Contents.{class_name, define_name, macro_name}
use Rattle.compile_defines.specs.Data.{datatype_name}
use Rattle.compile_core.proofs.Rising.{entries_rise, made_rise, IsFrom, IsUpTo, letter, letters_rise}
use Rattle.compile_defines.proofs.NamedDefines.{define_total, entry_stands, listed_is}
use Rattle.compile_defines.specs.Blocks.{class_defines, datatype_defines, element_defines, listed_defines, macro_defines, IsConditionDefine, component_defines, grammar_with}
use Rattle.compile_defines.specs.Compiled.{AllOffers, AreAllOffers, IsDefineOf, define_cmp, class_define, datatype_define, element_define, macro_define, IsGrammarOf}
use Rattle.compile_defines.specs.Compiled as compiled
use Rattle.odd_content.specs.declared.content.Condition.{Condition}
use Rattle.odd_text.specs.Sorted.{AreRising, IsSet}
use Rattle.odd_library.specs.Odd.{element_key}
use Rattle.odd_library.specs.declared.library.Component.{Component}
use Rattle.odd_library.specs.declared.library.Component.TheVariants as component
use Rattle.odd_library.specs.declared.library.Library.{Library}
use Rattle.odd_meaning.specs.Classes.{Members, AreMembers}
use Rattle.odd_meaning.specs.Links.{class_key, datatype_key, macro_key}
use Rattle.odd_text.specs.Key.{key_cmp}
use Rattle.odd_text.specs.KeyOrder.{key_total, key_exact}
use Rattle.odd_text.specs.Text.{text_cmp}
use Rattle.odd_text.specs.declared.key.Key.{Key}
use Rattle.odd_text.specs.declared.key.Kind.{Kind}
use Rattle.odd_text.specs.declared.key.Kind.TheVariants as kind
use Rattle.odd_text.proofs.InList.{first_or_later, nothing_stands, stands_first}
use Rattle.odd_text.specs.Standing.{StandsIn}
use Rattle.rng_grammar.specs.declared.grammar.Define.{Define}

-- nothing, or one item that is such
pub data IsAtMostOne {A : Type 0} (Is : A → Type 0) (xs : List A) : Type 0 where
  none : xs ≡ [] → IsAtMostOne Is xs
  one : (x : A) → xs ≡ x ∷ [] → Is x → IsAtMostOne Is xs

-- so there is at most one
at_most_one : {A : Type 0} (Is : A → Type 0) (xs : List A) → IsAtMostOne Is xs → length xs ≤ 1
at_most_one Is xs (none e) = let n = ap length e in omega arith
at_most_one Is xs (one x e h) = let n = ap length e in omega arith

-- what stands there is such
such_stands : {A : Type 0} (Is : A → Type 0) (xs : List A) (y : A) → IsAtMostOne Is xs → StandsIn xs y → Is y
such_stands Is xs y (none e) s = absurd (nothing_stands y (subst (λ zs. StandsIn zs y) e s))
such_stands Is xs y (one x e h) s = elim (first_or_later x y [] (subst (λ zs. StandsIn zs y) e s)) [ inl same ↦ subst Is (sym same) h | inr later ↦ absurd (nothing_stands y later) ]

-- keys of one kind are in the order of their idents
one_kind : (k : Kind) (a b : List ℕ) → key_cmp (record { kind = k; ident = a }) (record { kind = k; ident = b }) ≡ text_cmp a b
one_kind kind.Element a b = refl
one_kind kind.Class a b = refl
one_kind kind.Macro a b = refl
one_kind kind.Datatype a b = refl

module _ (library : Library) (conditions : List Condition) (members : Members) (offers : AllOffers) where
  -- the define of an entry of the kind, if it is the library's
  pub record IsEntryDefine (k : Kind) (name_of : List ℕ → List ℕ) (e : Key × Component) (d : Define) : Type 0 where
    pub kind : e.0.kind ≡ k
    pub named : d.name ≡ name_of e.0.ident
    pub is : StandsIn library.parts e → IsDefineOf library conditions members offers d

  -- a define of the library, of such a name
  pub record IsBlockDefine (name_of : List ℕ → List ℕ) (d : Define) : Type 0 where
    pub ident : List ℕ
    pub named : d.name ≡ name_of ident
    pub is : IsDefineOf library conditions members offers d

  module _ (k : Kind) (name_of : List ℕ → List ℕ) (ordered : (a b : List ℕ) → text_cmp (name_of a) (name_of b) ≡ text_cmp a b) (f : Key × Component → List Define)
      (block : (e : Key × Component) → IsAtMostOne (IsEntryDefine k name_of e) (f e)) where
    -- what stands among the defines of an entry
    at : (e : Key × Component) (d : Define) → StandsIn (f e) d → IsEntryDefine k name_of e d
    at e d s = such_stands (IsEntryDefine k name_of e) (f e) d (block e) s

    -- the define of a lesser entry is less
    lesser : (x y : Key × Component) (d e : Define) → StandsIn (f x) d → StandsIn (f y) e → key_cmp x.0 y.0 ≡ Less → define_cmp d e ≡ Less
    lesser x y d e s t less =
        let p = at x d s in
        let q = at y e t in
        (λ i. text_cmp (p.named i) (q.named i)) ∙ ordered x.0.ident y.0.ident ∙ sym (one_kind k x.0.ident y.0.ident)
        ∙ (λ i. key_cmp (record { kind = sym p.kind i; ident = x.0.ident }) (record { kind = sym q.kind i; ident = y.0.ident })) ∙ less

    -- so the defines rise
    pub block_rises : IsTrue (is_sorted key_cmp library.parts) → AreRising define_cmp (flat_map f library.parts)
    block_rises up =
        made_rise define_cmp define_total (λ (x y : Key × Component). key_cmp x.0 y.0) (on_total (λ (e : Key × Component). e.0) key_total) f
        (λ e. at_most_one (IsEntryDefine k name_of e) (f e) (block e)) lesser library.parts (entries_rise key_cmp library.parts up)

    -- and each is a define of the library
    pub block_stands : (d : Define) → StandsIn (flat_map f library.parts) d → IsBlockDefine name_of d
    block_stands d s = let p = collected_stands f d library.parts s in let q = at p.0 d p.2 in record { ident = p.0.0.ident; named = q.named; is = q.is p.1 }

module _ (library : Library) (conditions : List Condition) (members : Members) (offers : AllOffers) (up : IsTrue (is_sorted key_cmp library.parts)) where
  -- the define of an entry of the kind
  abbrev Is : Kind → (List ℕ → List ℕ) → Key × Component → Define → Type 0
  Is = IsEntryDefine library conditions members offers

  -- what is listed of a class
  listed_block : (ident : List ℕ) (part : Component) (o : Option (List (List ℕ))) → members ident ≡ o
      → IsAtMostOne (Is kind.Class class_name (record { kind = kind.Class; ident = ident }, part)) (listed_defines ident o)
  listed_block ident part None e = none refl
  listed_block ident part (Some idents) e = one (class_define ident idents) refl (record { kind = refl; named = refl; is = λ s. compiled.of_class ident idents e refl })

  -- classes

  class_at : (k : Kind) (ident : List ℕ) (part : Component)
      → IsAtMostOne (Is kind.Class class_name (record { kind = k; ident = ident }, part)) (class_defines members (record { kind = k; ident = ident }, part))
  class_at kind.Class ident part = listed_block ident part (members ident) refl
  class_at k ident part = none refl

  class_block : (e : Key × Component) → IsAtMostOne (Is kind.Class class_name e) (class_defines members e)
  class_block (key, part) = class_at key.kind key.ident part

  pub classes_rise : AreRising define_cmp (flat_map (class_defines members) library.parts)
  classes_rise = block_rises library conditions members offers kind.Class class_name (λ a b. refl) (class_defines members) class_block up

  pub classes_stand : (d : Define) → StandsIn (flat_map (class_defines members) library.parts) d → IsBlockDefine library conditions members offers class_name d
  classes_stand = block_stands library conditions members offers kind.Class class_name (λ a b. refl) (class_defines members) class_block

  -- datatypes

  datatype_at : (k : Kind) (ident : List ℕ) (part : Component)
      → IsAtMostOne (Is kind.Datatype datatype_name (record { kind = k; ident = ident }, part)) (datatype_defines (record { kind = k; ident = ident }, part))
  datatype_at kind.Datatype ident (component.Datatype part) =
      one (datatype_define ident part) refl
      (record { kind = refl; named = refl; is = λ s. compiled.of_datatype ident part (found key_cmp key_total key_exact _ _ library.parts up s) refl })
  datatype_at k ident part = none refl

  datatype_block : (e : Key × Component) → IsAtMostOne (Is kind.Datatype datatype_name e) (datatype_defines e)
  datatype_block (key, part) = datatype_at key.kind key.ident part

  pub datatypes_rise : AreRising define_cmp (flat_map datatype_defines library.parts)
  datatypes_rise = block_rises library conditions members offers kind.Datatype datatype_name (λ a b. refl) datatype_defines datatype_block up

  pub datatypes_stand : (d : Define) → StandsIn (flat_map datatype_defines library.parts) d → IsBlockDefine library conditions members offers datatype_name d
  datatypes_stand = block_stands library conditions members offers kind.Datatype datatype_name (λ a b. refl) datatype_defines datatype_block

  -- elements

  element_at : (k : Kind) (ident : List ℕ) (part : Component)
      → IsAtMostOne (Is kind.Element define_name (record { kind = k; ident = ident }, part)) (element_defines library conditions members offers (record { kind = k; ident = ident }, part))
  element_at kind.Element ident (component.Element part) =
      one (element_define library conditions members (offers ident) ident part) refl
      (record { kind = refl; named = refl; is = λ s. compiled.of_element ident part (found key_cmp key_total key_exact _ _ library.parts up s) refl })
  element_at k ident part = none refl

  element_block : (e : Key × Component) → IsAtMostOne (Is kind.Element define_name e) (element_defines library conditions members offers e)
  element_block (key, part) = element_at key.kind key.ident part

  pub elements_rise : AreRising define_cmp (flat_map (element_defines library conditions members offers) library.parts)
  elements_rise = block_rises library conditions members offers kind.Element define_name (λ a b. refl) (element_defines library conditions members offers) element_block up

  pub elements_stand : (d : Define) → StandsIn (flat_map (element_defines library conditions members offers) library.parts) d → IsBlockDefine library conditions members offers define_name d
  elements_stand = block_stands library conditions members offers kind.Element define_name (λ a b. refl) (element_defines library conditions members offers) element_block

  -- macros

  macro_at : (k : Kind) (ident : List ℕ) (part : Component)
      → IsAtMostOne (Is kind.Macro macro_name (record { kind = k; ident = ident }, part)) (macro_defines library conditions members (record { kind = k; ident = ident }, part))
  macro_at kind.Macro ident (component.Macro part) =
      one (macro_define library conditions members ident part) refl
      (record { kind = refl; named = refl; is = λ s. compiled.of_macro ident part (found key_cmp key_total key_exact _ _ library.parts up s) refl })
  macro_at k ident part = none refl

  macro_block : (e : Key × Component) → IsAtMostOne (Is kind.Macro macro_name e) (macro_defines library conditions members e)
  macro_block (key, part) = macro_at key.kind key.ident part

  pub macros_rise : AreRising define_cmp (flat_map (macro_defines library conditions members) library.parts)
  macros_rise = block_rises library conditions members offers kind.Macro macro_name (λ a b. refl) (macro_defines library conditions members) macro_block up

  pub macros_stand : (d : Define) → StandsIn (flat_map (macro_defines library conditions members) library.parts) d → IsBlockDefine library conditions members offers macro_name d
  macros_stand = block_stands library conditions members offers kind.Macro macro_name (λ a b. refl) (macro_defines library conditions members) macro_block

module _ (library : Library) (conditions : List Condition) (members : Members) (offers : AllOffers) (before : List Define) (up : IsTrue (is_sorted key_cmp library.parts))
    (are_before : IsSet define_cmp (IsConditionDefine conditions) before) (are_members : AreMembers library members) (are_offers : AreAllOffers library offers) where
  -- the defines of classes, of datatypes, of elements and of macros

  abbrev classes : List Define
  classes = flat_map (class_defines members) library.parts

  abbrev datatypes : List Define
  datatypes = flat_map datatype_defines library.parts

  abbrev elements : List Define
  elements = flat_map (element_defines library conditions members offers) library.parts

  abbrev macros : List Define
  macros = flat_map (macro_defines library conditions members) library.parts

  abbrev IsOf : Define → Type 0
  IsOf = IsDefineOf library conditions members offers

  -- the letters of each kind, in their order

  before_letter : (d : Define) → StandsIn before d → letter d.name ≡ 0x61
  before_letter d s = ap (λ (x : Define). letter x.name) (are_before.none_else d s).2

  class_letter : (d : Define) → StandsIn classes d → letter d.name ≡ 0x63
  class_letter d s = ap letter (classes_stand library conditions members offers up d s).named

  datatype_letter : (d : Define) → StandsIn datatypes d → letter d.name ≡ 0x64
  datatype_letter d s = ap letter (datatypes_stand library conditions members offers up d s).named

  element_letter : (d : Define) → StandsIn elements d → letter d.name ≡ 0x65
  element_letter d s = ap letter (elements_stand library conditions members offers up d s).named

  macro_letter : (d : Define) → StandsIn macros d → letter d.name ≡ 0x6D
  macro_letter d s = ap letter (macros_stand library conditions members offers up d s).named

  -- so those of the components rise
  components_rise : AreRising define_cmp (component_defines library conditions members offers)
  components_rise =
      let two : (d : Define) → StandsIn (classes ++ datatypes) d → IsUpTo 0x64 d =
      each_of_both (IsUpTo 0x64) classes datatypes (λ d s. let e = class_letter d s in omega arith) (λ d s. let e = datatype_letter d s in omega arith) in
      let three : (d : Define) → StandsIn ((classes ++ datatypes) ++ elements) d → IsUpTo 0x65 d =
      each_of_both (IsUpTo 0x65) (classes ++ datatypes) elements (λ d s. let e = two d s in omega arith) (λ d s. let e = element_letter d s in omega arith) in
      letters_rise 0x65 0x6D ((classes ++ datatypes) ++ elements) macros (omega arith)
      (letters_rise 0x64 0x65 (classes ++ datatypes) elements (omega arith)
      (letters_rise 0x63 0x64 classes datatypes (omega arith)
      (classes_rise library conditions members offers up)
      (datatypes_rise library conditions members offers up)
      (λ d s. let e = class_letter d s in omega arith) (λ d s. let e = datatype_letter d s in omega arith))
      (elements_rise library conditions members offers up)
      two (λ d s. let e = element_letter d s in omega arith))
      (macros_rise library conditions members offers up)
      three (λ d s. let e = macro_letter d s in omega arith)

  -- what holds of the defines of each kind, holds of all of them
  each_kind : (P : Define → Type 0) → ((d : Define) → StandsIn classes d → P d) → ((d : Define) → StandsIn datatypes d → P d) → ((d : Define) → StandsIn elements d → P d)
      → ((d : Define) → StandsIn macros d → P d) → (d : Define) → StandsIn (component_defines library conditions members offers) d → P d
  each_kind P class datatype element macro =
      each_of_both P ((classes ++ datatypes) ++ elements) macros (each_of_both P (classes ++ datatypes) elements (each_of_both P classes datatypes class datatype) element) macro

  -- and with those of the conditions before them
  all_rise : AreRising define_cmp (before ++ component_defines library conditions members offers)
  all_rise =
      letters_rise 0x61 0x63 before (component_defines library conditions members offers) (omega arith) are_before.rising components_rise (λ d s. let e = before_letter d s in omega arith)
      (each_kind (IsFrom 0x63) (λ d s. let e = class_letter d s in omega arith) (λ d s. let e = datatype_letter d s in omega arith)
      (λ d s. let e = element_letter d s in omega arith) (λ d s. let e = macro_letter d s in omega arith))

  -- each of them is a define of the library
  all_are : (d : Define) → StandsIn (before ++ component_defines library conditions members offers) d → IsOf d
  all_are =
      each_of_both IsOf before (component_defines library conditions members offers) (λ d s. let h = are_before.none_else d s in compiled.of_condition h.0 h.1 h.2)
      (each_kind IsOf (λ d s. (classes_stand library conditions members offers up d s).is) (λ d s. (datatypes_stand library conditions members offers up d s).is)
      (λ d s. (elements_stand library conditions members offers up d s).is) (λ d s. (macros_stand library conditions members offers up d s).is))

  -- and each define of the library is one of them

  alone : (d e : Define) → d ≡ e → StandsIn (e ∷ []) d
  alone d e same = subst (λ x. StandsIn (e ∷ []) x) (sym same) (stands_first e [])

  all_stand : (d : Define) → IsOf d → StandsIn (before ++ component_defines library conditions members offers) d
  all_stand d (compiled.of_condition c s e) = stands_left before (component_defines library conditions members offers) d (are_before.each d (c, s, e))
  all_stand d (compiled.of_class ident idents listed e) =
      let held = (listed_is library members ident idents are_members listed).0 in
      let whole = component.Class held.part in
      let here = subst (λ o. StandsIn (listed_defines ident o) d) (sym listed) (alone d (class_define ident idents) e) in
      let stands = stands_collected (class_defines members) d library.parts (class_key ident, whole) (entry_stands library (class_key ident) whole held.held) here in
      stands_right before (component_defines library conditions members offers) d (stands_left ((classes ++ datatypes) ++ elements) macros d (stands_left (classes ++ datatypes) elements d (stands_left classes datatypes d stands)))
  all_stand d (compiled.of_datatype ident part held e) =
      let whole = component.Datatype part in
      let here = alone d (datatype_define ident part) e in
      let stands = stands_collected datatype_defines d library.parts (datatype_key ident, whole) (entry_stands library (datatype_key ident) whole held) here in
      stands_right before (component_defines library conditions members offers) d (stands_left ((classes ++ datatypes) ++ elements) macros d (stands_left (classes ++ datatypes) elements d (stands_right classes datatypes d stands)))
  all_stand d (compiled.of_element ident part held e) =
      let whole = component.Element part in
      let here = alone d (element_define library conditions members (offers ident) ident part) e in
      let stands = stands_collected (element_defines library conditions members offers) d library.parts (element_key ident, whole) (entry_stands library (element_key ident) whole held) here in
      stands_right before (component_defines library conditions members offers) d (stands_left ((classes ++ datatypes) ++ elements) macros d (stands_right (classes ++ datatypes) elements d stands))
  all_stand d (compiled.of_macro ident part held e) =
      let whole = component.Macro part in
      let here = alone d (macro_define library conditions members ident part) e in
      let stands = stands_collected (macro_defines library conditions members) d library.parts (macro_key ident, whole) (entry_stands library (macro_key ident) whole held) here in
      stands_right before (component_defines library conditions members offers) d (stands_right ((classes ++ datatypes) ++ elements) macros d stands)

  -- so they are the set of its defines
  pub defines_are : (start : List (List ℕ)) → IsSet define_cmp (IsDefineOf library conditions members offers) (grammar_with library start conditions members offers before).defines
  defines_are start = record { rising = all_rise; none_else = all_are; each = all_stand }

  -- and the grammar with them is the library's
  pub made : (start : List (List ℕ)) → IsSet condition_cmp (IsConditionOf library) conditions → IsGrammarOf library start (grammar_with library start conditions members offers before)
  made start are_conditions = record {
    conditions = conditions;
    are_conditions = are_conditions;
    members = members;
    are_members = are_members;
    offers = offers;
    are_offers = are_offers;
    start_is = refl;
    are_defines = defines_are start;
  }
