-- Docs that differ in the places of their items alone have an offence alike.
use Rattle.std.proofs.Common.{◌≡◌, ℕ, suc, List, [], ◌∷◌, ◌++◌, ap, refl, sym, subst}
use Rattle.std.proofs.lemmas.List.{reverse-append}
use Rattle.std.specs.Prelude.{reverse, length}
use Rattle.odd_text.specs.declared.key.Key.{Key}
use Rattle.odd_library.specs.Odd.{place_of}
use Rattle.odd_library.specs.declared.library.Library.{Library}
use Rattle.odd_library.specs.declared.odd.Entry.TheVariants as entry
use Rattle.odd_library.specs.declared.odd.Entry.{Entry}
use Rattle.odd_library.specs.declared.odd.OddDoc.{OddDoc}
use Rattle.odd_modes.specs.Choosing.{IsChosen}
use Rattle.odd_modes.specs.Offences.{ItemFault, Offends, another_type, chosen, no_element, no_module, not_chosen, not_held, reference, spec}
use Rattle.order_laws.specs.AlikeDocs.{AreAlike, AreAllAlike, none, more, unplaced}
use Rattle.order_laws.proofs.HeldThere.{referred_into, same_library}
use Rattle.odd_chain.specs.Offences.{OffendsIn, of_item, of_library}
use Rattle.odd_chain.specs.Order.{Position, held, item}

-- what one of two chooses, so does the other
chosen_there : {doc other : OddDoc} (library : Library) (key : Key) → AreAlike doc other → IsChosen library doc key → IsChosen library other key
chosen_there {doc = doc} {other = other} library key alike c =
    record { part = c.part; held = c.held; referred = referred_into doc.entries other.entries key c.part alike.there c.referred }

-- two that are alike are so the other way
pub turned : {doc other : OddDoc} → AreAlike doc other → AreAlike other doc
turned alike = record {
  ident = sym alike.ident;
  start = sym alike.start;
  asides = sym alike.asides;
  there = alike.back;
  back = alike.there;
  one = alike.other_one;
  other_one = alike.one;
}

-- an item breaks what it breaks at any place
fault_apart : (library : Library) (doc : OddDoc) (e : Entry) (rule : ℕ) → ItemFault library doc e rule → ItemFault library doc (unplaced e) rule
fault_apart library doc (entry.Module at name p) rule (spec x) = elim x [ ]
fault_apart library doc (entry.Take at taken) rule (spec x) = elim x [ ]
fault_apart library doc (entry.Spec at s) rule (reference x) = elim x [ ]
fault_apart library doc (entry.Module at name p) rule (reference (no_module h)) = reference (no_module h)
fault_apart library doc (entry.Module at name p) rule (reference (no_element word s h)) = reference (no_element word s h)
fault_apart library doc (entry.Take at taken) rule (reference (not_held h)) = reference (not_held h)
fault_apart library doc (entry.Spec at s) rule (spec (chosen m c)) = spec (chosen m c)
fault_apart library doc (entry.Spec at s) rule (spec (not_chosen m c)) = spec (not_chosen m c)
fault_apart library doc (entry.Spec at s) rule (spec (another_type m c g)) = spec (another_type m c g)

fault_placed : (library : Library) (doc : OddDoc) (e : Entry) (rule : ℕ) → ItemFault library doc (unplaced e) rule → ItemFault library doc e rule
fault_placed library doc (entry.Module at name p) rule (spec x) = elim x [ ]
fault_placed library doc (entry.Take at taken) rule (spec x) = elim x [ ]
fault_placed library doc (entry.Spec at s) rule (reference x) = elim x [ ]
fault_placed library doc (entry.Module at name p) rule (reference (no_module h)) = reference (no_module h)
fault_placed library doc (entry.Module at name p) rule (reference (no_element word s h)) = reference (no_element word s h)
fault_placed library doc (entry.Take at taken) rule (reference (not_held h)) = reference (not_held h)
fault_placed library doc (entry.Spec at s) rule (spec (chosen m c)) = spec (chosen m c)
fault_placed library doc (entry.Spec at s) rule (spec (not_chosen m c)) = spec (not_chosen m c)
fault_placed library doc (entry.Spec at s) rule (spec (another_type m c g)) = spec (another_type m c g)

-- so what an item of one breaks, one of the other breaks too
fault_there : {doc other : OddDoc} (library : Library) (e : Entry) (rule : ℕ) → AreAlike doc other → ItemFault library doc e rule → ItemFault library other e rule
fault_there library e rule alike (reference r) = reference r
fault_there library e rule alike (spec (chosen m c)) = spec (chosen m (chosen_there library _ alike c))
fault_there library e rule alike (spec (not_chosen m c)) = spec (not_chosen m (λ there. c (chosen_there library _ (turned alike) there)))
fault_there library e rule alike (spec (another_type m c g)) = spec (another_type m (chosen_there library _ alike c) g)

offends_there : {doc other : OddDoc} (library : Library) (place rule : ℕ) → AreAlike doc other → Offends library doc place rule → (at : ℕ) × Offends library other at rule
offends_there {doc = doc} {other = other} library place rule alike o =
    let f = alike.there o.item o.stands in
    let fault = fault_there library (unplaced o.item) rule alike (fault_apart library doc o.item rule o.fault) in
    (place_of f.0, record { item = f.0; stands = f.1; begins = refl; fault = fault_placed library other f.0 rule (subst (λ x. ItemFault library other x rule) f.2 fault) })

-- docs are alike one after the other, the other way too
pub all_turned : {docs others : List OddDoc} → AreAllAlike docs others → AreAllAlike others docs
all_turned none = none
all_turned (more alike rest) = more (turned alike) (all_turned rest)

-- and so are some of them, as they stand and from behind
pub alike_append : {docs others last lasts : List OddDoc} → AreAllAlike docs others → AreAllAlike last lasts → AreAllAlike (docs ++ last) (others ++ lasts)
alike_append none ends = ends
alike_append (more alike rest) ends = more alike (alike_append rest ends)

pub alike_reversed : {docs others : List OddDoc} → AreAllAlike docs others → AreAllAlike (reverse docs) (reverse others)
alike_reversed none = none
alike_reversed {docs = doc ∷ docs} {others = other ∷ others} (more alike rest) =
    subst (λ xs. AreAllAlike xs (reverse (other ∷ others))) (sym (reverse-append (doc ∷ []) docs)) (
    subst (λ ys. AreAllAlike (reverse docs ++ doc ∷ []) ys) (sym (reverse-append (other ∷ []) others)) (alike_append (alike_reversed rest) (more alike none))
    )

-- the docs around one of the others
pub record AroundThere (earlier : List OddDoc) (doc : OddDoc) (others : List OddDoc) : Type 0 where
  pub before : List OddDoc
  pub other : OddDoc
  pub after : List OddDoc
  pub parts : others ≡ before ++ other ∷ after
  pub as_many : length before ≡ length earlier
  pub befores : AreAllAlike earlier before
  pub alike : AreAlike doc other

around_there : (earlier : List OddDoc) (doc : OddDoc) (later others : List OddDoc) → AreAllAlike (earlier ++ doc ∷ later) others → AroundThere earlier doc others
around_there [] doc later [] x = elim x [ ]
around_there (d ∷ earlier) doc later [] x = elim x [ ]
around_there [] doc later (other ∷ others) (more alike rest) = record { before = []; other = other; after = others; parts = refl; as_many = refl; befores = none; alike = alike }
around_there (d ∷ earlier) doc later (first ∷ others) (more alike rest) =
    let a = around_there earlier doc later others rest in
    record {
      before = first ∷ a.before;
      other = a.other;
      after = a.after;
      parts = ap (λ xs. first ∷ xs) a.parts;
      as_many = ap suc a.as_many;
      befores = more alike a.befores;
      alike = a.alike;
    }

-- so where docs have an offence, others that are alike have one too
pub offence_there : {docs others : List OddDoc} (file : ℕ) (at : Position) → AreAllAlike docs others → OffendsIn docs file at → (there : Position) × OffendsIn others file there
offence_there {docs = docs} {others = others} file at alike (of_item {place = place} {rule = rule} earlier doc later library is after offends) =
    let a = around_there earlier doc later others (subst (λ ds. AreAllAlike ds others) is alike) in
    let o = offends_there library place rule a.alike offends in
    (item o.0 rule, subst (λ n. OffendsIn others (suc n) (item o.0 rule)) a.as_many (of_item a.before a.other a.after library a.parts (same_library library (alike_reversed a.befores) after) o.1))
offence_there {docs = docs} {others = others} file at alike (of_library {key = key} {rule = rule} earlier doc later library is after breaks) =
    let a = around_there earlier doc later others (subst (λ ds. AreAllAlike ds others) is alike) in
    let all : AreAllAlike (earlier ++ doc ∷ []) (a.before ++ a.other ∷ []) = alike_append a.befores (more a.alike none) in
    (held key rule, subst (λ n. OffendsIn others (suc n) (held key rule)) a.as_many (of_library a.before a.other a.after library a.parts (same_library library (alike_reversed all) after) breaks))
