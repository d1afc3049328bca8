-- The graph of a library by a link: its arrows, its chains, its cycles and the members of a class.
use Rattle.std.proofs.Common.{◌≡◌, ◌↔◌, ◌<◌, ℕ, List, Option, Some, None, length, get_or, is_some, refl, sym, ap, subst, ◌∙◌, inl, inr, [], ◌∷◌, ◌⊎◌, ◌≤◌, ◌+◌, ◌++◌, take, ⊎_elim, arith}
use Rattle.std.proofs.Math.ListN.{get_or-append}
use Rattle.std.proofs.lemmas.Bool.{false≢true, cases_order}
use Rattle.std.proofs.lemmas.Bool.Decides.{eqb_tells}
use Rattle.std.proofs.lemmas.List.{get_or_push, length_push}
use Rattle.std.proofs.lemmas.List.Elements.{Contains-append_left, Contains-push, Contains-push_cases}
use Rattle.std.proofs.lemmas.Option.{same_Some, slice_get-get_or, slice_get_within}
use Rattle.std.specs.Cmp.{tied_itself}
use Rattle.std.specs.FinMap.{find, is_sorted}
use Rattle.std.specs.List.{Contains}
use Rattle.std.specs.Prelude.{IsTrue, IsSome, option_map, slice_get}
use Rattle.std.specs.declared.cmp.Ordering.{Ordering}
use Rattle.odd_text.specs.Sorted.{IsSet}
use Rattle.odd_graph.proofs.Chains.{chained_along, first_step, chained_back, last_step}
use Rattle.odd_graph.specs.Graph.{Chained, HasArrow, Leads, IsFirstOnCycle}
use Rattle.odd_library.specs.Odd.{element_key}
use Rattle.odd_library.specs.declared.library.Component.{Component}
use Rattle.odd_library.specs.declared.library.Component.TheVariants as component
use Rattle.odd_library.specs.declared.library.Library.{Library}
use Rattle.odd_meaning.specs.Classes.{IsElementOf, IsMember}
use Rattle.odd_meaning.specs.Links.{IsLinked, class_key, classes_of}
use Rattle.odd_text.specs.Key.{key_cmp}
use Rattle.odd_text.specs.KeyOrder.{key_total}
use Rattle.odd_text.specs.declared.key.Key.{Key}
use Rattle.odd_text.proofs.InList.{nothing_stands, ends, once_push}
use Rattle.odd_text.specs.Standing.{StandsIn}
use Rattle.odd_classes.proofs.Places.{entry_held, held_at, one_place, places_rise, both_more, none_more, entry_here}
use Rattle.odd_classes.specs.Placing.{IsEntryAt, IsGraphOf, IsFirstAmong, ArePlacesOf, IsPlaceOf, IsReachedFrom, IsTurnedGraphOf}

-- where something is held
pub held : (key : Key) (library : Library) → IsSome (find key_cmp key library.parts) → (part : Component) × (find key_cmp key library.parts ≡ Some part)
held key library is = some (find key_cmp key library.parts) is
  where
    some : (o : Option Component) → IsSome o → (part : Component) × (o ≡ Some part)
    some None h = absurd (false≢true h)
    some (Some part) h = (part, refl)

module _ (keys_of : Component → List Key) (library : Library) (up : IsTrue (is_sorted key_cmp library.parts)) (arrows : List (List ℕ)) (is : IsGraphOf keys_of library.parts arrows) where
  -- an arrow is the link of two components
  arrow_links : (place next : ℕ) (key : Key) → IsPlaceOf library.parts place key → HasArrow arrows place next → (other : Key) × IsPlaceOf library.parts next other × IsLinked keys_of library key other
  arrow_links place next key (part, at) arrow =
      let within : next < length library.parts = subst (λ n. next < n) is.as_many arrow.within in
      let there : IsEntryAt library.parts next (get_or library.parts next (key, part)).0 (get_or library.parts next (key, part)).1 = slice_get-get_or library.parts next (key, part) within in
      let other : Key = (get_or library.parts next (key, part)).0 in
      let others : Component = (get_or library.parts next (key, part)).1 in (
        other,
        (others, there),
        record {
          part = part;
          held = entry_held library.parts up place key part at;
          among = (is.leads place next key other part others at there).0 arrow;
          other_held = ap is_some (entry_held library.parts up next other others there);
        },
      )

  -- and a link is an arrow of their places
  pub link_arrow : (key other : Key) (place : ℕ) → IsPlaceOf library.parts place key → IsLinked keys_of library key other → (next : ℕ) × IsPlaceOf library.parts next other × HasArrow arrows place next
  link_arrow key other place (part, at) l =
      let found = held other library l.other_held in
      let there = held_at library.parts other found.0 found.1 in
      let same : part ≡ l.part = same_Some _ _ (sym (entry_held library.parts up place key part at) ∙ l.held) in
      (there.0, (found.0, there.1), (is.leads place there.0 key other part found.0 at there.1).1 (subst (λ p. StandsIn (keys_of p) other) (sym same) l.among))

  -- so chains of arrows are chains of links
  pub chain_linked : (place last : ℕ) (key : Key) → IsPlaceOf library.parts place key → Leads arrows place last → (other : Key) × IsPlaceOf library.parts last other × Chained (IsLinked keys_of library) key other
  chain_linked place last key at l = chained_along (HasArrow arrows) (IsLinked keys_of library) (IsPlaceOf library.parts) (λ p q k h a. arrow_links p q k h a) place last key at l

  -- and the other way round
  pub linked_chain : (key other : Key) (place : ℕ) → IsPlaceOf library.parts place key → Chained (IsLinked keys_of library) key other → (last : ℕ) × IsPlaceOf library.parts last other × Leads arrows place last
  linked_chain key other place at l = chained_along (IsLinked keys_of library) (HasArrow arrows) (λ k p. IsPlaceOf library.parts p k) (λ k m p h s. link_arrow k m p h s) key other place at l

  -- a place has one key
  pub one_key_at : (place : ℕ) (key other : Key) → IsPlaceOf library.parts place key → IsPlaceOf library.parts place other → key ≡ other
  one_key_at place key other a b = ap (λ e. e.0) (same_Some _ _ (sym a.1 ∙ b.1))

  -- two components are linked in a chain exactly where their places are
  pub chains_agree : (place other : ℕ) (key last : Key) → IsPlaceOf library.parts place key → IsPlaceOf library.parts other last → Leads arrows place other ↔ Chained (IsLinked keys_of library) key last
  chains_agree place other key last a b = (there, back)
    where
      there : Leads arrows place other → Chained (IsLinked keys_of library) key last
      there l = let made = chain_linked place other key a l in subst (Chained (IsLinked keys_of library) key) (one_key_at other made.0 last made.1 b) made.2

      back : Chained (IsLinked keys_of library) key last → Leads arrows place other
      back l = let made = linked_chain key last place a l in subst (Leads arrows place) (one_place library.parts up made.0 other last made.1.0 b.0 made.1.1 b.1) made.2

-- a key at a place is that of an entry
pub entry_of_key : (es : List (Key × Component)) (place : ℕ) (key : Key) → Some key ≡ option_map (λ e. e.0) (slice_get es place) → (part : Component) × IsEntryAt es place key part
entry_of_key es place key is = by (slice_get es place) is
  where
    by : (o : Option (Key × Component)) → Some key ≡ option_map (λ e. e.0) o → (part : Component) × (o ≡ Some (key, part))
    by None h = cc
    by (Some e) h = (e.1, ap (λ k. Some (k, e.1)) (sym (same_Some _ _ h)))

module _ (keys_of : Component → List Key) (library : Library) (up : IsTrue (is_sorted key_cmp library.parts)) (arrows : List (List ℕ)) (is : IsGraphOf keys_of library.parts arrows) where
  -- a key that leads to itself has a place that does
  looping_place : (key : Key) → Chained (IsLinked keys_of library) key key → (place : ℕ) × ((part : Component) × IsEntryAt library.parts place key part) × Leads arrows place place
  looping_place key l =
      let step = (first_step (IsLinked keys_of library) key key l).1 in
      let there = held_at library.parts key step.part step.held in
      (there.0, (step.part, there.1), (chains_agree keys_of library up arrows is there.0 there.0 key key (step.part, there.1) (step.part, there.1)).1 l)

  -- where no place is on a cycle, no key leads to itself
  pub none_loops : IsFirstOnCycle arrows None → (key : Key) → Chained (IsLinked keys_of library) key key → ⊥
  none_loops none key l = let at = looping_place key l in none at.0 at.2

  -- and where one is the first, its key is the first that leads to itself
  pub first_loops : (place : ℕ) (key : Key) (part : Component) → IsFirstOnCycle arrows (Some place) → IsEntryAt library.parts place key part
      → IsFirstAmong (λ k. Chained (IsLinked keys_of library) k k) key
  first_loops place key part first at = record {
    is_one = (chains_agree keys_of library up arrows is place place key key (part, at) (part, at)).0 first.0;
    first = λ other l greater. let found = looping_place other l in elim (cases_order place found.0) [
      | inl same ↦ cc (tied_itself key_total key, one_key_at keys_of library up arrows is place key other (part, at) (rw same found.1), greater)
      | inr (inl less) ↦ cc (places_rise library.parts up place found.0 key other part found.1.0 less at found.1.1, greater)
      | inr (inr less) ↦ first.1 found.0 less found.2
    ];
  }

-- a set is one of what is the same
pub set_same : {A : Type 0} (order : A → A → Ordering) (Is Other : A → Type 0) (items : List A) → ((item : A) → Is item ↔ Other item) → IsSet order Is items → IsSet order Other items
set_same order Is Other items same h = record { rising = h.rising; none_else = λ item s. (same item).0 (h.none_else item s); each = λ item o. h.each item ((same item).1 o) }

-- the set of what is not
pub no_set : {A : Type 0} (order : A → A → Ordering) (Is : A → Type 0) (items : List A) → items ≡ [] → ((item : A) → Is item → ⊥) → IsSet order Is items
no_set {A} order Is items empty not = subst (IsSet order Is) (sym empty) (record {
  rising = λ before after item next e. absurd (nothing_stands item (before, next ∷ after, e));
  none_else = λ item s. absurd (nothing_stands item s);
  each = λ item is. absurd (not item is);
})

module _ (library : Library) (class : List ℕ) where
  -- a class that has no place has no element
  pub no_member : ((place : ℕ) → IsPlaceOf library.parts place (class_key class) → ⊥) → (ident : List ℕ) → IsElementOf library class ident → ⊥
  no_member none ident m =
      let found = held (class_key class) library (last_step (IsLinked classes_of library) (element_key ident) (class_key class) m.member).1.other_held in
      let at = held_at library.parts (class_key class) found.0 found.1 in
      none at.0 (found.0, at.1)

  -- the elements that its place leads back to are its members
  pub members_reached : IsTrue (is_sorted key_cmp library.parts) → (back : List (List ℕ)) (place : ℕ) → IsTurnedGraphOf classes_of library.parts back → IsPlaceOf library.parts place (class_key class)
      → (ident : List ℕ) → IsReachedFrom library.parts back place ident ↔ IsElementOf library class ident
  members_reached up back place is here ident = (
    λ r. record {
      part = r.1;
      held = entry_held library.parts up r.0 (element_key ident) (component.Element r.1) r.2;
      member = (agree r.0 (component.Element r.1) r.2).0 (chained_back (HasArrow back) (HasArrow is.arrows) (λ a b. (is.turned b a).0) place r.0 r.3);
    },
    λ m.
        let at = held_at library.parts (element_key ident) (component.Element m.part) m.held in
        (at.0, m.part, at.1, chained_back (HasArrow is.arrows) (HasArrow back) (λ a b. (is.turned a b).1) at.0 place ((agree at.0 (component.Element m.part) at.1).1 m.member)),
  )
    where
      agree : (from : ℕ) (part : Component) → IsEntryAt library.parts from (element_key ident) part → Leads is.arrows from place ↔ IsMember library class (element_key ident)
      agree from part at = chains_agree classes_of library up is.arrows is.graph from place (element_key ident) (class_key class) (part, at) here

-- what a list with one node more contains
contains_with : (nodes : List ℕ) (node place : ℕ) → Contains (nodes ++ node ∷ []) place ↔ (Contains nodes place ⊎ (node ≡ place))
contains_with nodes node place = (
  Contains-push_cases nodes node place,
  λ h. ⊎_elim (Contains-append_left nodes (node ∷ []) place) (λ e. subst (Contains (nodes ++ node ∷ [])) e (Contains-push nodes node)) h,
)

module _ (entries : List (Key × Component)) (keys : List Key) (i : ℕ) (nodes : List ℕ) (key : Key) (before : ArePlacesOf entries (take i keys) nodes) (within : i < length keys) (is : key ≡ get_or keys i key) where
  -- the next key has a place
  pub place_found : (node : ℕ) → ((place : ℕ) → (◌≡◌ {A = Option ℕ} (Some node) (Some place)) ↔ IsPlaceOf entries place key) → ArePlacesOf entries (take (i + 1) keys) (nodes ++ node ∷ [])
  place_found node found place =
      rw (ends keys i key within is)
      (both_more (contains_with nodes node place) (before place) (once_push (λ k. IsPlaceOf entries place k) (take i keys) key)
      (λ p. same_Some _ _ ((found place).1 p), λ e. (found place).0 (ap Some e)))

  -- the next key has none
  pub no_place : ((place : ℕ) → IsPlaceOf entries place key → ⊥) → ArePlacesOf entries (take (i + 1) keys) nodes
  no_place none place = rw (ends keys i key within is) (none_more (before place) (once_push (λ k. IsPlaceOf entries place k) (take i keys) key) (none place))

-- the arrows of the first entries
pub record ArrowsSoFar (keys_of : Component → List Key) (entries : List (Key × Component)) (arrows : List (List ℕ)) (count : ℕ) : Type 0 where
  pub as_many : length arrows ≡ count
  pub lead : (place : ℕ) (key : Key) (part : Component) → place < count → IsEntryAt entries place key part → ArePlacesOf entries (keys_of part) (get_or arrows place [])

-- those of the next entry
pub arrows_more : (keys_of : Component → List Key) (entries : List (Key × Component)) (arrows : List (List ℕ)) (i : ℕ) (here : Key × Component) (nodes : List ℕ)
    → ArrowsSoFar keys_of entries arrows i → i < length entries → here ≡ get_or entries i here → ArePlacesOf entries (keys_of here.1) nodes
    → ArrowsSoFar keys_of entries (arrows ++ nodes ∷ []) (i + 1)
arrows_more keys_of entries arrows i here nodes before within is h = record {
  as_many = length_push arrows nodes ∙ ap (λ n. n + 1) before.as_many;
  lead = λ place key part less at. ⊎_elim (λ t. last place key part t.1 at) (λ t. earlier place key part (omega (arith, t.1)) at) (eqb_tells i place);
}
  where
    Lead : ℕ → Component → Type 0
    Lead place part = ArePlacesOf entries (keys_of part) (get_or (arrows ++ nodes ∷ []) place [])

    last : (place : ℕ) (key : Key) (part : Component) → i ≡ place → IsEntryAt entries place key part → Lead place part
    last place key part e at =
        let same : here.1 ≡ part = ap (λ p. p.1) (same_Some _ _ (sym (entry_here entries i here within is) ∙ ap (λ n. slice_get entries n) e ∙ at)) in
        subst (Lead place) same (rw (get_or_push arrows nodes [] place (before.as_many ∙ e)) h)

    earlier : (place : ℕ) (key : Key) (part : Component) → place < i → IsEntryAt entries place key part → Lead place part
    earlier place key part less at = rw (get_or-append arrows (nodes ∷ []) [] place (omega (arith, before.as_many))) (before.lead place key part less at)

-- at the end they are the graph
pub all_arrows : (keys_of : Component → List Key) (entries : List (Key × Component)) (arrows : List (List ℕ)) (count : ℕ) → ArrowsSoFar keys_of entries arrows count → length entries ≤ count
    → count ≤ length entries → IsGraphOf keys_of entries arrows
all_arrows keys_of entries arrows count h all within = record {
  as_many = omega (arith, h.as_many);
  leads = λ place next key other part others at there.
      let to = h.lead place key part (omega (arith, slice_get_within entries place (key, part) at)) at next in (
        λ a.
            let s = to.0 a.among in
            subst (StandsIn (keys_of part)) (ap (λ p. p.0) (same_Some _ _ (sym s.2.1 ∙ there))) s.1,
        λ s. record { among = to.1 (other, s, (others, there)); within = omega (arith, h.as_many, slice_get_within entries next (other, others) there) },
      );
}
