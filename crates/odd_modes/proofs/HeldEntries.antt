-- What a library holds at a key and after a file, which is one.
use Rattle.std.proofs.Common.{◌≡◌, ◌↔◌, Bool, true, List, ◌∷◌, filter, get_or, Some, refl, sym, ap, ◌∙◌}
use Rattle.std.proofs.lemmas.List.{get_or_default}
use Rattle.std.proofs.lemmas.List.Elements.{All-contains, All-contains_itself, All-filter, filter-append, filter_passes}
use Rattle.std.proofs.lemmas.Option.{same_Some}
use Rattle.std.specs.Cmp.{tied_itself}
use Rattle.std.specs.FinMap.{find, is_sorted}
use Rattle.std.specs.List.{Contains}
use Rattle.std.specs.Prelude.{IsTrue}
use Rattle.std.specs.declared.cmp.Ordering.TheVariants.{Less}
use Rattle.odd_text.proofs.SetOf.{turned}
use Rattle.odd_text.specs.Sorted.{IsSet}
use Rattle.odd_library.specs.declared.library.Component.{Component}
use Rattle.odd_library.specs.declared.library.Library.{Library}
use Rattle.odd_library.specs.declared.odd.OddDoc.{OddDoc}
use Rattle.odd_text.proofs.Entries.{as_T, find_at, found_contained, rising, same_map}
use Rattle.odd_text.specs.Key.{key_cmp}
use Rattle.odd_text.specs.KeyOrder.{key_exact, key_total}
use Rattle.odd_text.specs.Map.{IsAfter}
use Rattle.odd_text.specs.declared.key.Key.{Key}
use Rattle.odd_text.proofs.InList.{contained, map_stands, standing, stands_map}
use Rattle.odd_text.specs.Standing.{StandsIn}
use Rattle.odd_modes.specs.After.{IsLibraryAfter}
use Rattle.odd_modes.specs.Choosing.{IsChosen, is_referred}
use Rattle.odd_modes.specs.Index.{AreReferencesOf, is_listed, keys_listed}
use Rattle.odd_modes.specs.declared.references.References.{References}

-- what is found at a key is the value of an entry there
pub held_stands : (key : Key) (part : Component) (es : List (Key × Component)) → find key_cmp key es ≡ Some part → StandsIn es (key, part)
held_stands key part es h = standing es (key, part) (found_contained key_cmp key_total key_exact key part es h)

-- and an entry's value is found at its key
pub stands_held : (e : Key × Component) (es : List (Key × Component)) → IsTrue (is_sorted key_cmp es) → StandsIn es e → find key_cmp e.0 es ≡ Some e.1
stands_held e es up s =
    let there = contained es e s in
    let here : get_or es there.0 e ≡ e = there.2 in
    let same : (d : Key × Component) → get_or es there.0 d ≡ e = λ d. get_or_default es there.0 d e there.1 ∙ here in
    let after : IsAfter key_cmp e.0 es there.0 = λ j d before.
    let less : key_cmp (get_or es j d).0 (get_or es there.0 d).0 ≡ Less = rising key_cmp es (as_T (is_sorted key_cmp es) up) j there.0 d before there.1 in
    turned key_cmp key_total e.0 (get_or es j d).0 Less (ap (λ (p : Key × Component). key_cmp (get_or es j d).0 p.0) (sym (same d)) ∙ less) in
    find_at key_cmp key_total e.0 es there.0 e there.1 after (ap (λ p. key_cmp e.0 p.0) here ∙ tied_itself key_total e.0) ∙ ap (λ p. Some p.1) here

-- what is listed of all entries is what the file chooses
pub lists_chosen : (library : Library) (doc : OddDoc) (refs : References) (key : Key) → AreReferencesOf doc.entries refs → IsTrue (is_sorted key_cmp library.parts)
    → StandsIn (keys_listed refs library.parts) key ↔ IsChosen library doc key
lists_chosen library doc refs key are up =
    let test : Key × Component → Bool = λ e. is_listed refs e.0 e.1 in
    let listed = filter test library.parts in (
      λ s.
          let e = stands_map (λ x. x.0) listed key s in
          let passed = contained listed e.0 e.1 in
          let held = All-contains (Contains library.parts) listed e.0 (All-filter test (Contains library.parts) library.parts (All-contains_itself library.parts)) passed in
          record {
            part = e.0.1;
            held = ap (λ k. find key_cmp k library.parts) e.2 ∙ stands_held e.0 library.parts up (standing library.parts e.0 held);
            referred = sym (are key e.0.1) ∙ ap (λ k. is_listed refs k e.0.1) e.2 ∙ All-contains (λ x. test x ≡ true) listed e.0 (filter_passes test library.parts) passed;
          },
      λ is.
          let s = held_stands key is.part library.parts is.held in
          map_stands (λ x. x.0) listed (key, is.part)
          (filter test s.0, filter test s.1, ap (filter test) s.2 ∙ filter-append test s.0 ((key, is.part) ∷ s.1) ∙ rw (are key is.part ∙ is.referred) refl),
    )

-- a component that is held is chosen where the references refer to it
pub chosen_told : (library : Library) (doc : OddDoc) (refs : References) (key : Key) (part : Component) (told : Bool) → AreReferencesOf doc.entries refs → Some part ≡ find key_cmp key library.parts
    → told ≡ is_listed refs key part → IsTrue told ↔ IsChosen library doc key
chosen_told library doc refs key part told are held e = (
  λ t. record { part = part; held = sym held; referred = sym (are key part) ∙ sym e ∙ t },
  λ is. e ∙ are key part ∙ ap (is_referred doc.entries key) (same_Some part is.part (held ∙ is.held)) ∙ is.referred,
)

-- the same keys in the same order are another set where that is of the same keys
pub set_same : (P Q : Key → Type 0) (keys : List Key) → ((key : Key) → P key ↔ Q key) → IsSet key_cmp P keys → IsSet key_cmp Q keys
set_same P Q keys same s = record {
  rising = s.rising;
  none_else = λ key t. (same key).0 (s.none_else key t);
  each = λ key q. s.each key ((same key).1 q);
}

-- two libraries after the same files are the same
pub one_library : (docs : List OddDoc) (l m : Library) → IsLibraryAfter docs l → IsLibraryAfter docs m → l ≡ m
one_library docs l m p q =
    let ident : l.ident ≡ m.ident = p.ident ∙ sym q.ident in
    let start : l.start ≡ m.start = p.start ∙ sym q.start in
    let parts : l.parts ≡ m.parts = same_map key_cmp key_total key_exact l.parts m.parts p.rising q.rising (λ key. p.holds key ∙ sym (q.holds key)) in
    λ n. record { ident = ident n; start = start n; parts = parts n }
