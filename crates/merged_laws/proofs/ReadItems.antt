-- The items that are printed of components are read as one declaration for each of them, in order; none breaks anything, and no two declare one key.
use Rattle.std.proofs.Common.{◌≡◌, ℕ, List, [], ◌∷◌, map, refl, sym, ap, subst, ◌∙◌, ⊎_elim}
use Rattle.std.specs.declared.cmp.Ordering.TheVariants.{Less}
use Rattle.odd_text.specs.Key.{key_cmp}
use Rattle.odd_text.specs.KeyOrder.{key_total}
use Rattle.odd_text.specs.declared.key.Key.{Key}
use Rattle.odd_text.specs.declared.name.Bind.{Bind}
use Rattle.odd_text.specs.Standing.{StandsIn}
use Rattle.odd_tree.specs.declared.tree.Tree.{Tree}
use Rattle.odd_text.proofs.InList.{first_or_later, nothing_stands, stands_first, stands_later}
use Rattle.odd_decls.proofs.Rising.{one_key}
use Rattle.odd_decls.specs.Declares.{IsEntryOf}
use Rattle.odd_decls.specs.Items.{IsSpecOf}
use Rattle.odd_decls.specs.Offences.{ItemFault}
use Rattle.odd_text.proofs.SetOf.{first_below, not_below, rest_rising}
use Rattle.odd_forms.specs.Names.{tei_namespace}
use Rattle.odd_text.specs.Sorted.{AreRising}
use Rattle.odd_library.specs.Odd.{place_of}
use Rattle.odd_library.specs.declared.library.Component.{Component}
use Rattle.odd_library.specs.declared.odd.Entry.{Entry}
use Rattle.odd_library.specs.declared.odd.Entry.TheVariants as entry
use Rattle.odd_emit.specs.Components.{entry_markup}
use Rattle.odd_overlay.specs.Tabled.{keys_of}
use Rattle.merged_laws.proofs.Entries.{AreFormedParts}
use Rattle.merged_laws.proofs.Held.{AreEntriesFor}
use Rattle.merged_laws.proofs.Places.{begins_at}
use Rattle.merged_laws.proofs.DeclarationsRead.{component_free, component_read}
use Rattle.merged_laws.proofs.Told.{AreShown}

-- an item is read as the entry, whatever is declared around it
abbrev pub IsEntryAnywhere : Tree → Entry → Type 0
IsEntryAnywhere item e = (around : List Bind) → IsEntryOf tei_namespace (record { around = around; element = item }) e

pub record AreReadItems (ts : List Tree) (es : List (Key × Component)) : Type 0 where
  pub entries : List Entry
  pub for : AreEntriesFor entries es
  pub none_else : (e : Entry) → StandsIn entries e → (item : Tree) × StandsIn ts item × IsEntryAnywhere item e
  pub each : (item : Tree) → StandsIn ts item → (made : Entry) × StandsIn entries made × IsEntryAnywhere item made
  pub places : map place_of entries ≡ map begins_at ts
  pub whole : (item : Tree) → StandsIn ts item → (around : List Bind) (rule : ℕ) → ItemFault around item rule → ⊥
  pub keyed : (item : Tree) → StandsIn ts item → (key : Key) → IsSpecOf key item → StandsIn (keys_of es) key
  pub once : (key : Key) (one other : Tree) → StandsIn ts one → StandsIn ts other → IsSpecOf key one → IsSpecOf key other → one ≡ other

pub items_read : (ts : List Tree) (es : List (Key × Component)) → AreFormedParts es → AreRising key_cmp (keys_of es) → AreShown (map entry_markup es) ts → AreReadItems ts es
items_read [] [] f r s = record {
  entries = [];
  for = tt;
  none_else = λ e stands. absurd (nothing_stands e stands);
  each = λ item stands. absurd (nothing_stands item stands);
  places = refl;
  whole = λ item stands. absurd (nothing_stands item stands);
  keyed = λ item stands. absurd (nothing_stands item stands);
  once = λ key one other stands. absurd (nothing_stands one stands);
}
items_read (t ∷ ts) [] f r s = absurd s
items_read [] (e ∷ es) f r s = absurd s
items_read (t ∷ ts) (e ∷ es) f r s =
    let one = component_read e.0.kind e.0.ident e.1 t f.0.0 f.0.1 s.0 in
    let rest = items_read ts es f.1 (rest_rising key_cmp key_total e.0 (keys_of es) r) s.1 in
    let made : Entry = entry.Spec (begins_at t) one.spec in
    let first_key : (key : Key) → IsSpecOf key t → key ≡ e.0 = λ key is. one_key t key one.spec.key is (one.is []).is_spec ∙ one.keyed in
    let apart : (key : Key) → IsSpecOf key t → StandsIn (keys_of es) key → ⊥ = λ key is stands.
    not_below key_cmp key_total e.0 (subst (λ k. key_cmp e.0 k ≡ Less) (first_key key is) (first_below key_cmp key_total e.0 (keys_of es) r key stands)) in
    record {
      entries = made ∷ rest.entries;
      for = ((one.keyed, one.adds, one.made), rest.for);
      none_else = λ x stands.
          ⊎_elim (λ same. (t, stands_first t ts, subst (IsEntryAnywhere t) (sym same) (λ around. IsEntryOf.spec (one.is around))))
          (λ later. let g = rest.none_else x later in (g.0, stands_later t g.0 ts g.1, g.2)) (first_or_later made x rest.entries stands);
      each = λ item stands.
          ⊎_elim (λ same. (made, stands_first made rest.entries, subst (λ u. IsEntryAnywhere u made) (sym same) (λ around. IsEntryOf.spec (one.is around))))
          (λ later. let g = rest.each item later in (g.0, stands_later made g.0 rest.entries g.1, g.2)) (first_or_later t item ts stands);
      places = ap (λ ns. begins_at t ∷ ns) rest.places;
      whole = λ item stands around rule fault.
          ⊎_elim (λ same. component_free e.0.kind e.0.ident e.1 t f.0.0 f.0.1 s.0 around rule (subst (λ u. ItemFault around u rule) same fault))
          (λ later. rest.whole item later around rule fault) (first_or_later t item ts stands);
      keyed = λ item stands key is.
          ⊎_elim (λ same. subst (StandsIn (keys_of (e ∷ es))) (sym (first_key key (subst (IsSpecOf key) same is))) (stands_first e.0 (keys_of es)))
          (λ later. stands_later e.0 key (keys_of es) (rest.keyed item later key is)) (first_or_later t item ts stands);
      once = λ key item other stands also is too.
          ⊎_elim
          (λ same. ⊎_elim (λ alike. same ∙ sym alike) (λ later. absurd (apart key (subst (IsSpecOf key) same is) (rest.keyed other later key too))) (first_or_later t other ts also))
          (λ later. ⊎_elim (λ alike. absurd (apart key (subst (IsSpecOf key) alike too) (rest.keyed item later key is))) (λ after. rest.once key item other later after is too) (first_or_later t other ts also))
          (first_or_later t item ts stands);
    }
