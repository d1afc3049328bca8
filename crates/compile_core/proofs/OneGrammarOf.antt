-- A library and a list of start words have one grammar, whose defines rise, or a least word that is missing.
use Rattle.std.proofs.Common.{◌≡◌, ℕ, List, [], ◌∷◌, ◌++◌, Option, Some, None, cond, inl, inr, refl, sym, subst, ap, ◌∙◌, true, false, map}
use Rattle.std.proofs.lemmas.Bool.{and_from}
use Rattle.std.proofs.lemmas.Cmp.{nat_list_cmp_total, on_total}
use Rattle.std.specs.Cmp.{IsTotalOrder}
use Rattle.std.specs.Borrow.{Bor}
use Rattle.std.specs.Option.{option_copied}
use Rattle.std.specs.FinMap.{is_sorted}
use Rattle.std.specs.FinMap.Entries.{below_all}
use Rattle.std.specs.Ordering.{is_lt}
use Rattle.std.specs.Prelude.{IsTrue}
use Rattle.std.specs.declared.cmp.Ordering.TheVariants.{Less, Equal, Greater}
use Rattle.odd_attributes.specs.declared.att_def.AttDef.{AttDef}
use Rattle.odd_content.specs.ConditionOrder.{condition_cmp, condition_total}
use Rattle.compile_defines.specs.Conditions.{IsConditionOf}
use Rattle.compile_defines.proofs.NamedDefines.{define_total}
use Rattle.compile_defines.specs.Compiled.{AllOffers, AreAllOffers, IsMissing, IsDefineOf, IsGrammarOf, define_cmp}
use Rattle.odd_meaning.specs.Offering.{OffersOne, offer_cmp}
use Rattle.odd_text.proofs.SetOf.{not_below, one_set, rest_rising}
use Rattle.odd_text.specs.Sorted.{IsSet, AreRising}
use Rattle.odd_library.specs.declared.library.Library.{Library}
use Rattle.odd_meaning.specs.Classes.{AreMembers, IsElementOf, IsListed, Members}
use Rattle.odd_text.specs.Lesser.{lesser_of}
use Rattle.odd_text.specs.Text.{text_cmp}
use Rattle.odd_text.proofs.InList.{stands_push}
use Rattle.rng_grammar.specs.Denoting.{entry_of}
use Rattle.rng_grammar.specs.declared.grammar.Define.{Define}
use Rattle.rng_grammar.specs.declared.grammar.Grammar.{Grammar}
use Rattle.compile_core.specs.Schema.{IsLeast, IsLeastMissing}

module _ (library : Library) (words : List (List ℕ)) (v : List ℕ) where
  -- a word that is held changes nothing
  pub held_more : (least : Option (List ℕ)) → IsLeast library words least → (IsMissing library v → ⊥) → IsLeast library (words ++ v ∷ []) least
  held_more None none held = λ w a missing. elim ((stands_push words v w).0 a) [
    | inl b ↦ none w b missing
    | inr e ↦ held (subst (IsMissing library) (sym e) missing)
  ]
  held_more (Some least) is held = record {
    among = (stands_push words v least).1 (inl is.among);
    missing = is.missing;
    least = λ w a missing less. elim ((stands_push words v w).0 a) [
      | inl b ↦ is.least w b missing less
      | inr e ↦ held (subst (IsMissing library) (sym e) missing)
    ];
  }

  -- of a missing word and the least so far the lesser is the least
  pub missing_more : (least : Option (List ℕ)) → IsLeast library words least → IsMissing library v → IsLeast library (words ++ v ∷ []) (lesser_of text_cmp least (Some v))
  missing_more None none missing = record {
    among = (stands_push words v v).1 (inr refl);
    missing = missing;
    least = λ w a gone less. elim ((stands_push words v w).0 a) [
      | inl b ↦ none w b gone
      | inr e ↦ not_below text_cmp nat_list_cmp_total v (subst (λ x. text_cmp x v ≡ Less) (sym e) less)
    ];
  }
  missing_more (Some other) is missing =
      elim (text_cmp v other) as (λ r. text_cmp v other ≡ r → IsLeastMissing library (words ++ v ∷ []) (cond (is_lt r) v other)) [
        | Less ↦ λ p. record {
          among = (stands_push words v v).1 (inr refl);
          missing = missing;
          least = λ w a gone less. elim ((stands_push words v w).0 a) [
            | inl b ↦ is.least w b gone (nat_list_cmp_total.trans w v other less p)
            | inr e ↦ not_below text_cmp nat_list_cmp_total v (subst (λ x. text_cmp x v ≡ Less) (sym e) less)
          ];
        }
        | Equal ↦ λ p. kept (λ less. let no = sym p ∙ less in cc)
        | Greater ↦ λ p. kept (λ less. let no = sym p ∙ less in cc)
      ] refl
    where
      kept : (text_cmp v other ≡ Less → ⊥) → IsLeastMissing library (words ++ v ∷ []) other
      kept above = record {
        among = (stands_push words v other).1 (inl is.among);
        missing = is.missing;
        least = λ w a gone less. elim ((stands_push words v w).0 a) [
          | inl b ↦ is.least w b gone less
          | inr e ↦ above (subst (λ x. text_cmp x other ≡ Less) (sym e) less)
        ];
      }

-- the lesser of words that are borrowed, copied
pub lesser_copied : (least : Option (Bor (List ℕ))) (word : Bor (List ℕ))
    → option_copied (lesser_of (λ a b. text_cmp a.now b.now) least (Some word)) ≡ lesser_of text_cmp (option_copied least) (Some word.now)
lesser_copied None word = refl
lesser_copied (Some other) word = elim (is_lt (text_cmp word.now other.now)) as (λ b. option_copied (Some (cond b word other)) ≡ Some (cond b word.now other.now)) [
  | true ↦ refl
  | false ↦ refl
]

-- what is listed of a class is one
one_listed : (library : Library) (class : List ℕ) (some other : Option (List (List ℕ))) → IsListed library class some → IsListed library class other → some ≡ other
one_listed library class None None p q = refl
one_listed library class None (Some idents) p q = absurd (p q.0)
one_listed library class (Some idents) None p q = absurd (q p.0)
one_listed library class (Some idents) (Some others) p q =
    ap Some (one_set text_cmp nat_list_cmp_total (IsElementOf library class) idents others p.1 q.1)

-- so the members of all classes are
pub one_members : (library : Library) (some other : Members) → AreMembers library some → AreMembers library other → some ≡ other
one_members library some other p q = λ i class. one_listed library class (some class) (other class) (p class) (q class) i

-- what is offered is ordered by ident
pub offer_total : IsTotalOrder offer_cmp
offer_total = on_total (λ (o : List ℕ × AttDef). o.0) nat_list_cmp_total

-- so are the attributes that elements offer
pub one_offers : (library : Library) (some other : AllOffers) → AreAllOffers library some → AreAllOffers library other → some ≡ other
one_offers library some other p q = λ i element. one_set offer_cmp offer_total (OffersOne library element) (some element) (other element) (p element) (q element) i

-- and the defines, and the whole grammar
pub one_grammar_of : (library : Library) (start : List (List ℕ)) (g h : Grammar) → IsGrammarOf library start g → IsGrammarOf library start h → g ≡ h
one_grammar_of library start g h p q =
    let conditions : p.conditions ≡ q.conditions = one_set condition_cmp condition_total (IsConditionOf library) p.conditions q.conditions p.are_conditions q.are_conditions in
    let members : p.members ≡ q.members = one_members library p.members q.members p.are_members q.are_members in
    let offers : p.offers ≡ q.offers = one_offers library p.offers q.offers p.are_offers q.are_offers in
    let same : IsDefineOf library p.conditions p.members p.offers ≡ IsDefineOf library q.conditions q.members q.offers = λ i. IsDefineOf library (conditions i) (members i) (offers i) in
    let set : IsSet define_cmp (IsDefineOf library q.conditions q.members q.offers) g.defines = subst (λ (Is : Define → Type 0). IsSet define_cmp Is g.defines) same p.are_defines in
    let defines : g.defines ≡ h.defines = one_set define_cmp define_total (IsDefineOf library q.conditions q.members q.offers) g.defines h.defines set q.are_defines in
    let begin : g.start ≡ h.start = p.start_is ∙ sym q.start_is in
    λ i. record { start = begin i; defines = defines i }

-- the name is below those of some defines
abbrev IsBelow : List ℕ → List Define → Type 0
IsBelow name ds = below_all text_cmp name (map entry_of ds) ≡ true

abbrev pub Rises : List Define → Type 0
Rises ds = IsTrue (is_sorted text_cmp (map entry_of ds))

-- where each define is below the next, so it is among all but the first
later_rise : (d : Define) (ds : List Define) → AreRising define_cmp (d ∷ ds) → AreRising define_cmp ds
later_rise d ds r = rest_rising define_cmp define_total d ds r

-- a name below the first is below all
below_later : (name : List ℕ) (d : Define) (ds : List Define) → text_cmp name d.name ≡ Less → AreRising define_cmp (d ∷ ds) → IsBelow name (d ∷ ds)
below_later name d [] less r = and_from _ _ (ap is_lt less) refl
below_later name d (e ∷ ds) less r =
    and_from _ _ (ap is_lt less) (below_later name e ds (nat_list_cmp_total.trans name d.name e.name less (r [] ds d e refl)) (later_rise d (e ∷ ds) r))

-- so the defines rise
pub rising_sorted : (ds : List Define) → AreRising define_cmp ds → Rises ds
rising_sorted [] r = refl
rising_sorted (d ∷ []) r = refl
rising_sorted (d ∷ e ∷ ds) r = and_from _ _ (below_later d.name e ds (r [] ds d e refl) (later_rise d (e ∷ ds) r)) (rising_sorted (e ∷ ds) (later_rise d (e ∷ ds) r))
