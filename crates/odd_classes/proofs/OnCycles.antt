-- Which rule a component breaks that leads to itself.
use Rattle.std.proofs.Common.{◌≡◌, ◌≢◌, ℕ, Bool, true, List, [], filter, map, inl, inr, refl, sym, ap, subst, arith}
use Rattle.std.proofs.lemmas.List.Elements.{All-contains, All-from_get_or, All-map}
use Rattle.std.specs.declared.cmp.Ordering.TheVariants.{Greater}
use Rattle.odd_graph.proofs.Chains.{last_step}
use Rattle.odd_graph.specs.Graph.{Chained}
use Rattle.odd_library.specs.declared.library.Library.{Library}
use Rattle.odd_meaning.specs.Links.{IsLinked, class_key, classes_of, datatype_key, datatypes_of, is_datatype, is_macro, macro_key, macros_of, memberships, named_by}
use Rattle.odd_meaning.specs.Rules.{Breaks, BreaksByCycle, IsFirstBreak, datatype_reaches_itself, own_member, reaches_itself}
use Rattle.odd_text.specs.Key.{key_cmp}
use Rattle.odd_text.specs.declared.key.Key.{Key}
use Rattle.odd_text.specs.declared.key.Kind.{Kind}
use Rattle.odd_text.specs.declared.key.Kind.TheVariants as kind
use Rattle.odd_text.proofs.InList.{contained}
use Rattle.odd_text.specs.Standing.{StandsIn}
use Rattle.odd_classes.proofs.OfKind.{among_passes}
use Rattle.odd_classes.specs.Placing.{IsFirstAmong, LeadsToItself}
use Rattle.odd_classes.specs.declared.links.Link.TheVariants as link

-- what stands among the keys of classes is one
class_among : (words : List (List ℕ)) (key : Key) → StandsIn (map class_key words) key → key ≡ class_key key.ident
class_among words key s =
    let is = λ (k : Key). k ≡ class_key k.ident in
    All-contains is (map class_key words) key (All-map is class_key words (All-from_get_or (λ w. is (class_key w)) words [] (λ i h. refl))) (contained (map class_key words) key s)

-- what stands among those of a kind is of it
of_kind : (test : Kind → Bool) (k : Kind) → ((other : Kind) → test other ≡ true → other ≡ k) → (keys : List Key) (key : Key) → StandsIn (filter (λ x. test x.kind) keys) key
    → key ≡ record { kind = k; ident = key.ident }
of_kind test k only keys key s = ap (λ (x : Kind). record { kind = x; ident = key.ident }) (only key.kind (among_passes (λ x. test x.kind) keys key s))

-- the only kind of macros
pub macro_kind : (k : Kind) → is_macro k ≡ true → k ≡ kind.Macro
macro_kind kind.Element h = cc
macro_kind kind.Class h = cc
macro_kind kind.Macro h = refl
macro_kind kind.Datatype h = cc

-- and of datatypes
datatype_kind : (k : Kind) → is_datatype k ≡ true → k ≡ kind.Datatype
datatype_kind kind.Element h = cc
datatype_kind kind.Class h = cc
datatype_kind kind.Macro h = cc
datatype_kind kind.Datatype h = refl

-- what stands among the keys of macros is one
pub macro_among : (keys : List Key) (key : Key) → StandsIn (filter (λ k. is_macro k.kind) keys) key → key ≡ macro_key key.ident
macro_among = of_kind is_macro kind.Macro macro_kind

-- and among those of datatypes
datatype_among : (keys : List Key) (key : Key) → StandsIn (filter (λ k. is_datatype k.kind) keys) key → key ≡ datatype_key key.ident
datatype_among = of_kind is_datatype kind.Datatype datatype_kind

module _ (library : Library) where
  -- what is reached by classes is a class
  pub reached_class : (key other : Key) → Chained (IsLinked classes_of library) key other → other ≡ class_key other.ident
  reached_class key other l = let step = (last_step (IsLinked classes_of library) key other l).1 in class_among (memberships step.part) other step.among

  -- so is what leads to itself by classes
  pub class_loops : (key : Key) → LeadsToItself link.Classes library key → key ≡ class_key key.ident
  class_loops key l = reached_class key key l

  -- by macros a macro
  macro_loops : (key : Key) → LeadsToItself link.Macros library key → key ≡ macro_key key.ident
  macro_loops key l = let step = (last_step (IsLinked macros_of library) key key l).1 in macro_among (named_by step.part) key step.among

  -- and by datatypes a datatype
  datatype_loops : (key : Key) → LeadsToItself link.Datatypes library key → key ≡ datatype_key key.ident
  datatype_loops key l = let step = (last_step (IsLinked datatypes_of library) key key l).1 in datatype_among (named_by step.part) key step.among

  -- such a class breaks rule 13
  pub class_breaks : (key : Key) → LeadsToItself link.Classes library key → Breaks library key 13
  class_breaks key l = let is = class_loops key l in subst (λ k. Breaks library k 13) (sym is) (own_member key.ident (subst (λ k. LeadsToItself link.Classes library k) is l))

  -- such a macro breaks rule 14
  macro_breaks : (key : Key) → LeadsToItself link.Macros library key → Breaks library key 14
  macro_breaks key l = let is = macro_loops key l in subst (λ k. Breaks library k 14) (sym is) (reaches_itself key.ident (subst (λ k. LeadsToItself link.Macros library k) is l))

  -- and so does such a datatype
  datatype_breaks : (key : Key) → LeadsToItself link.Datatypes library key → Breaks library key 14
  datatype_breaks key l =
      let is = datatype_loops key l in subst (λ k. Breaks library k 14) (sym is) (datatype_reaches_itself key.ident (subst (λ k. LeadsToItself link.Datatypes library k) is l))

  -- who breaks a rule on cycles
  data OnCycle : Key → ℕ → Type 0 where
    class : (key : Key) (rule : ℕ) → rule ≡ 13 → LeadsToItself link.Classes library key → OnCycle key rule
    macro : (key : Key) (rule : ℕ) → rule ≡ 14 → LeadsToItself link.Macros library key → OnCycle key rule
    datatype : (key : Key) (rule : ℕ) → rule ≡ 14 → LeadsToItself link.Datatypes library key → OnCycle key rule

  -- each who does is one of these
  sort : (key : Key) (rule : ℕ) → BreaksByCycle library key rule → OnCycle key rule
  sort key rule breaks = grind (arith, class, macro, datatype)

  -- a class that is a member of itself leads to itself
  own_leads : (key : Key) → Breaks library key 13 → LeadsToItself link.Classes library key
  own_leads key breaks = grind arith

  -- where none leads to itself, no class is a member of itself
  pub none_own : ((key : Key) → LeadsToItself link.Classes library key → ⊥) → (key : Key) → Breaks library key 13 → ⊥
  none_own no_class key breaks = no_class key (own_leads key breaks)

  -- and the first that does is the first that is
  pub first_own : (key : Key) → IsFirstAmong (LeadsToItself link.Classes library) key → IsFirstAmong (λ other. Breaks library other 13) key
  first_own key first = record { is_one = class_breaks key first.is_one; first = λ other breaks. first.first other (own_leads other breaks) }

  -- the first class that leads to itself is the first offence
  pub first_class : (key : Key) → IsFirstAmong (LeadsToItself link.Classes library) key → IsFirstBreak (BreaksByCycle library) key 13
  first_class key first = record {
    is_one = (class_breaks key first.is_one, omega arith, omega arith);
    first = λ other rule breaks. elim (sort other rule breaks) [
      | class k r e l ↦ inr (sym e, first.first k l)
      | macro k r e l ↦ inl (omega (arith, e))
      | datatype k r e l ↦ inl (omega (arith, e))
    ];
  }

  module _ (no_class : (key : Key) → LeadsToItself link.Classes library key → ⊥) where
    -- where no class does, the first macro is
    pub first_macro : (key : Key) → IsFirstAmong (LeadsToItself link.Macros library) key → IsFirstBreak (BreaksByCycle library) key 14
    first_macro key first = record {
      is_one = (macro_breaks key first.is_one, omega arith, omega arith);
      first = λ other rule breaks. elim (sort other rule breaks) [
        | class k r e l ↦ absurd (no_class k l)
        | macro k r e l ↦ inr (sym e, first.first k l)
        | datatype k r e l ↦ inr (sym e, λ greater. below k (macro_loops key first.is_one) (datatype_loops k l) greater)
      ];
    }
      where
        -- macros stand before datatypes
        below : (other : Key) → key ≡ macro_key key.ident → other ≡ datatype_key other.ident → key_cmp key other ≢ Greater
        below other one two greater =
            let less : key_cmp (macro_key key.ident) (datatype_key other.ident) ≡ Greater = subst (λ k. key_cmp k (datatype_key other.ident) ≡ Greater) one (subst (λ k. key_cmp key k ≡ Greater) two greater) in cc

    module _ (no_macro : (key : Key) → LeadsToItself link.Macros library key → ⊥) where
      -- where no macro does, the first datatype
      pub first_datatype : (key : Key) → IsFirstAmong (LeadsToItself link.Datatypes library) key → IsFirstBreak (BreaksByCycle library) key 14
      first_datatype key first = record {
        is_one = (datatype_breaks key first.is_one, omega arith, omega arith);
        first = λ other rule breaks. elim (sort other rule breaks) [
          | class k r e l ↦ absurd (no_class k l)
          | macro k r e l ↦ absurd (no_macro k l)
          | datatype k r e l ↦ inr (sym e, first.first k l)
        ];
      }

      -- and where no datatype does, there is none
      pub none_breaks : ((key : Key) → LeadsToItself link.Datatypes library key → ⊥) → (key : Key) (rule : ℕ) → BreaksByCycle library key rule → ⊥
      none_breaks no_datatype key rule breaks = elim (sort key rule breaks) [
        | class k r e l ↦ no_class k l
        | macro k r e l ↦ no_macro k l
        | datatype k r e l ↦ no_datatype k l
      ]
