-- The macros in an order of the graph of a library.
use Rattle.std.proofs.Common.{◌≡◌, ℕ, List, [], inl, inr, refl, sym, ap, subst, arith, ◌↔◌, ◌≢◌, ◌<◌, ◌≤◌, ◌+◌, ◌∷◌, ◌++◌, length, take, drop, get_or, is_some, ◌∙◌}
use Rattle.std.proofs.lemmas.List.{take-append-drop, take_all}
use Rattle.std.proofs.lemmas.Option.{same_Some, slice_get_within}
use Rattle.std.specs.FinMap.{is_sorted}
use Rattle.std.specs.List.{Contains}
use Rattle.std.specs.Prelude.{IsTrue}
use Rattle.odd_graph.proofs.Chains.{last_step}
use Rattle.odd_graph.specs.Graph.{Chained, Leads}
use Rattle.odd_graph.specs.Ordering.{IsApart, IsOrder}
use Rattle.odd_library.specs.declared.library.Component.{Component}
use Rattle.odd_library.specs.declared.library.Library.{Library}
use Rattle.odd_meaning.specs.Links.{IsLinked, macro_key, macros_of, named_by}
use Rattle.odd_text.specs.Key.{key_cmp}
use Rattle.odd_text.specs.declared.key.Key.{Key}
use Rattle.odd_text.specs.declared.key.Kind.TheVariants as kind
use Rattle.odd_text.proofs.InList.{contained, StandsOnce, after, before, begins, ends, here, nothing_stands, once_push, standing, stands_around, stands_push}
use Rattle.odd_text.specs.Standing.{StandsIn}
use Rattle.odd_classes.proofs.Linked.{chain_linked, chains_agree, linked_chain, held, link_arrow, one_key_at}
use Rattle.odd_classes.proofs.OnCycles.{macro_among}
use Rattle.odd_classes.proofs.Places.{both_more, none_more, entry_held, held_at, one_place}
use Rattle.odd_classes.specs.Placing.{IsEntryAt, IsGraphOf}
use Rattle.odd_classes.specs.Ranking.{IsRanked, IsMacroOrder}

module _ (library : Library) (up : IsTrue (is_sorted key_cmp library.parts)) (arrows : List (List ℕ)) (graph : IsGraphOf macros_of library.parts arrows) where
  -- one macro reaches another
  abbrev Linked : Key → Key → Type 0
  Linked = Chained (IsLinked macros_of library)

  -- what is reached is a macro
  reached_macro : (key other : Key) → Linked key other → other ≡ macro_key other.ident
  reached_macro key other l = let step = (last_step (IsLinked macros_of library) key other l).1 in macro_among (named_by step.part) other step.among

  -- a place leads to itself exactly where its key does
  loops_agree : (place : ℕ) (key : Key) (part : Component) → IsEntryAt library.parts place key part → Leads arrows place place ↔ Linked key key
  loops_agree place key part at = chains_agree macros_of library up arrows graph place place key key (part, at) (part, at)

  module _ (place : ℕ) (ident : List ℕ) (part : Component) (at : IsEntryAt library.parts place (macro_key ident) part) where
    -- where the place leads to no cycle, the macro reaches none
    pub apart_ranked : IsApart arrows place → IsRanked library ident
    apart_ranked apart other (inl same) loops = apart place (inl refl) ((loops_agree place (macro_key ident) part at).1 (subst (λ w. Linked (macro_key w) (macro_key w)) same loops))
    apart_ranked apart other (inr reaches) loops =
        let there = linked_chain macros_of library up arrows graph (macro_key ident) (macro_key other) place (part, at) reaches in
        apart there.0 (inr there.2) ((loops_agree there.0 (macro_key other) there.1.0 there.1.1).1 loops)

    -- and the other way round
    pub ranked_apart : IsRanked library ident → IsApart arrows place
    ranked_apart ranked other (inl same) loops = ranked ident (inl refl) ((loops_agree place (macro_key ident) part at).0 (subst (λ p. Leads arrows p p) same loops))
    ranked_apart ranked other (inr leads) loops =
        let there = chain_linked macros_of library up arrows graph place other (macro_key ident) (part, at) leads in
        let is = reached_macro (macro_key ident) there.0 there.2 in
        ranked there.0.ident (inr (subst (Linked (macro_key ident)) is there.2)) (subst (λ k. Linked k k) is ((loops_agree other there.0 there.1.0 there.1.1).0 loops))

-- each item of a list is such after those before it
abbrev pub EachAfter : {A : Type 0} → (List A → A → Type 0) → List A → Type 0
EachAfter {A} Is items = (front back : List A) (item : A) → items ≡ front ++ item ∷ back → Is front item

-- with one item more they are where it is such after them all
each_push : {A : Type 0} (Is : List A → A → Type 0) (items : List A) (last : A) → EachAfter Is items → Is items last → EachAfter Is (items ++ last ∷ [])
each_push Is items last each is front back item e = elim (stands_around items last [] front item back e) [
  | before c h ↦ each front c item h
  | here same one ↦ subst (Is front) one (subst (λ xs. Is xs last) same is)
  | after c h ↦ absurd (nothing_stands item (c, back, h))
]

module _ (library : Library) where
  -- the place is that of the macro
  abbrev pub IsMacroAt : List ℕ → ℕ → Type 0
  IsMacroAt ident place = (part : Component) × IsEntryAt library.parts place (macro_key ident) part

  -- a place of another kind is that of no macro
  pub other_kind : (place : ℕ) (key : Key) (part : Component) → IsEntryAt library.parts place key part → key.kind ≢ kind.Macro → (ident : List ℕ) → IsMacroAt ident place → ⊥
  other_kind place key part there other ident m = other (ap (λ e. e.0.kind) (same_Some _ _ (sym there ∙ m.1)))

  -- the macro does not stand among these, and those that its content names do
  abbrev IsNext : List (List ℕ) → List ℕ → Type 0
  IsNext words ident = (StandsIn words ident → ⊥) × ((other : List ℕ) → IsLinked macros_of library (macro_key ident) (macro_key other) → StandsIn words other)

  -- the words are the macros at these places
  pub record MacrosAt (order : List ℕ) (words : List (List ℕ)) : Type 0 where
    pub each : (ident : List ℕ) → StandsIn words ident ↔ StandsOnce (IsMacroAt ident) order
    pub next : EachAfter IsNext words

  module _ (up : IsTrue (is_sorted key_cmp library.parts)) (arrows : List (List ℕ)) (graph : IsGraphOf macros_of library.parts arrows) (order : List ℕ) (is : IsOrder arrows order) where
    module _ (i place : ℕ) (words : List (List ℕ)) (so_far : MacrosAt (take i order) words) (within : i < length order) (at : place ≡ get_or order i place) where
      -- the place in the order
      around : order ≡ take i order ++ place ∷ drop (i + 1) order
      around = sym (take-append-drop i order) ∙ ap (λ xs. take i order ++ xs) (begins order i place within at)

      -- the next is a macro
      pub macro_next : (key : Key) (part : Component) → IsEntryAt library.parts place key part → key.kind ≡ kind.Macro → MacrosAt (take (i + 1) order) (words ++ key.ident ∷ [])
      macro_next key part there macro = rw (ends order i place within at) (record {
        each = λ ident.
            both_more (stands_push words key.ident ident) (so_far.each ident) (once_push (IsMacroAt ident) (take i order) place)
            (λ m. ap (λ k. k.ident) (one_key_at macros_of library up arrows graph place key (macro_key ident) (part, there) m), λ e. (part, at_key ident e));
        next = each_push IsNext words key.ident so_far.next (not_yet, named);
      })
        where
          at_key : (ident : List ℕ) → key.ident ≡ ident → IsEntryAt library.parts place (macro_key ident) part
          at_key ident e = subst (λ k. IsEntryAt library.parts place k part) (ap (λ k. record { kind = k; ident = key.ident }) macro ∙ ap macro_key e) there

          not_yet : StandsIn words key.ident → ⊥
          not_yet s =
              let earlier = (so_far.each key.ident).0 s in
              let same = one_place library.parts up earlier.0 place (macro_key key.ident) earlier.2.0 part earlier.2.1 (at_key key.ident refl) in
              is.once (take i order) (drop (i + 1) order) place around (contained (take i order) place (subst (StandsIn (take i order)) same earlier.1))

          named : (other : List ℕ) → IsLinked macros_of library (macro_key key.ident) (macro_key other) → StandsIn words other
          named other l =
              let next = link_arrow macros_of library up arrows graph (macro_key key.ident) (macro_key other) place (part, at_key key.ident refl) l in
              (so_far.each other).1 (next.0, standing (take i order) next.0 (is.after (take i order) (drop (i + 1) order) place next.0 around next.2), next.1)

      -- it is none
      pub no_macro : ((ident : List ℕ) → IsMacroAt ident place → ⊥) → MacrosAt (take (i + 1) order) words
      no_macro not = rw (ends order i place within at) (record {
        each = λ ident. none_more (so_far.each ident) (once_push (IsMacroAt ident) (take i order) place) (not ident);
        next = so_far.next;
      })

    -- at the end they are the macros of the library in order
    pub all_ordered : (count : ℕ) (words : List (List ℕ)) → ((node : ℕ) → Contains order node ↔ ((node < length arrows) × IsApart arrows node)) → length order ≤ count → MacrosAt (take count order) words
        → IsMacroOrder library words
    all_ordered count words all end made = record {
      each = λ ident. (
        λ s.
            let m = (made.each ident).0 s in
            let stands = subst (λ xs. StandsIn xs m.0) (take_all count order end) m.1 in (
              ap is_some (entry_held library.parts up m.0 (macro_key ident) m.2.0 m.2.1),
              apart_ranked library up arrows graph m.0 ident m.2.0 m.2.1 ((all m.0).0 (contained order m.0 stands)).1,
            ),
        λ h.
            let found = held (macro_key ident) library h.0 in
            let there = held_at library.parts (macro_key ident) found.0 found.1 in
            let node : there.0 < length arrows = omega (arith, graph.as_many, slice_get_within library.parts there.0 (macro_key ident, found.0) there.1) in
            let stands = standing order there.0 ((all there.0).1 (node, ranked_apart library up arrows graph there.0 ident found.0 there.1 h.1)) in
            (made.each ident).1 (there.0, subst (λ xs. StandsIn xs there.0) (sym (take_all count order end)) stands, (found.0, there.1)),
      );
      once = λ front back ident e. (made.next front back ident e).0;
      after = λ front back ident other e. (made.next front back ident e).1 other;
    }
