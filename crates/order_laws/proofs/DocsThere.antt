-- Files without an offence that say the same in another order declare docs that differ in the places of their items alone.
use Rattle.std.proofs.Common.{◌≡◌, ℕ, false, List, [], ◌∷◌, ◌++◌, Option, Some, None, ⊎_elim, refl, sym, ap, subst, ◌∙◌}
use Rattle.std.proofs.lemmas.Cmp.{nat_list_cmp_total}
use Rattle.std.proofs.lemmas.List.Elements.{filter_map-append}
use Rattle.std.proofs.lemmas.Option.{same_Some}
use Rattle.std.specs.List.{cons_option, filter_map}
use Rattle.std.specs.Prelude.{codes}
use Rattle.odd_text.specs.Text.{text_cmp}
use Rattle.odd_text.specs.declared.key.Key.{Key}
use Rattle.odd_tokens.specs.Tokens.{NoneTwice}
use Rattle.odd_text.proofs.InList.{first_or_later, nothing_stands}
use Rattle.odd_text.specs.Standing.{StandsIn}
use Rattle.odd_tree.specs.Elements.{given}
use Rattle.odd_tree.specs.declared.tree.Tree.{Tree}
use Rattle.odd_text.proofs.SetOf.{one_set}
use Rattle.odd_text.specs.Sorted.{IsSet}
use Rattle.odd_library.specs.Formed.{key_of}
use Rattle.odd_library.specs.declared.odd.Entry.{Entry}
use Rattle.odd_library.specs.declared.odd.Entry.TheVariants as entry
use Rattle.odd_library.specs.declared.odd.OddDoc.{OddDoc}
use Rattle.odd_items.specs.Groups.{IsItemIn, schema_names}
use Rattle.odd_items.specs.Search.{Finds, Found}
use Rattle.odd_decls.proofs.KeysOnce.{keys_once}
use Rattle.odd_decls.specs.Declares.{DeclaresWhole, IsEntryOf, ident_in, namespace_of, start_in}
use Rattle.odd_decls.specs.Items.{at_of}
use Rattle.odd_decls.specs.Offences.{ItemFault, ItemsOffend, Offends, OffendsWhole}
use Rattle.order_laws.specs.AlikeDocs.{AreAlike, HaveOneSpec, StandThere}
use Rattle.order_laws.proofs.Alike.{same_given}
use Rattle.order_laws.proofs.EntriesThere.{entry_there}
use Rattle.order_laws.proofs.OffendsThere.{firsts_whole, own_ids_whole}
use Rattle.order_laws.proofs.Pairing.{AreBeside, AreFirstsBeside, IsPairing, item_there, turned}
use Rattle.order_laws.proofs.Pairing as firsts

-- the key of an entry stands among the keys
key_stands : (es : List Entry) (e : Entry) (key : Key) → StandsIn es e → key_of e ≡ Some key → StandsIn (filter_map key_of es) key
key_stands es e key s is = (
  filter_map key_of s.0,
  filter_map key_of s.1,
  ap (filter_map key_of) s.2 ∙ filter_map-append key_of s.0 (e ∷ s.1) ∙ ap (λ o. filter_map key_of s.0 ++ cons_option o (filter_map key_of s.1)) is,
)

-- where no key stands twice, two entries of one key are one
one_at : (es : List Entry) (e f : Entry) (key : Key) → NoneTwice (filter_map key_of es) → StandsIn es e → StandsIn es f → key_of e ≡ Some key → key_of f ≡ Some key → e ≡ f
one_at [] e f key none s r is also = absurd (nothing_stands e s)
one_at (g ∷ es) e f key none s r is also =
    ⊎_elim (λ a. ⊎_elim (λ b. a ∙ sym b) (λ later. absurd (apart f later (ap key_of (sym a) ∙ is) also)) (first_or_later g f es r))
    (λ i. ⊎_elim (λ b. absurd (apart e i (ap key_of (sym b) ∙ also) is)) (λ later. one_at es e f key rest i later is also) (first_or_later g f es r)) (first_or_later g e es s)
  where
    apart : (h : Entry) → StandsIn es h → key_of g ≡ Some key → key_of h ≡ Some key → ⊥
    apart h later first second =
        let k = key_stands es h key later second in
        none [] k.0 k.1 key (ap (λ o. cons_option o (filter_map key_of es)) first ∙ ap (λ ks. key ∷ ks) k.2)

    rest : NoneTwice (filter_map key_of es)
    rest before between after item same = by (key_of g) refl
      where
        by : (o : Option Key) → key_of g ≡ o → ⊥
        by None h = none before between after item (ap (λ o. cons_option o (filter_map key_of es)) h ∙ same)
        by (Some k) h = none (k ∷ before) between after item (ap (λ o. cons_option o (filter_map key_of es)) h ∙ ap (λ ks. k ∷ ks) same)

-- so a doc has one spec at most for a key
one_spec : (t : Tree) (doc : OddDoc) → DeclaresWhole t doc → HaveOneSpec doc.entries
one_spec t doc d at place spec other s r same =
    let e : entry.Spec at spec ≡ entry.Spec place other = one_at doc.entries (entry.Spec at spec) (entry.Spec place other) spec.key (keys_once t doc d) s r refl (ap Some (sym same)) in cc

-- an item of a file without an offence breaks nothing
pub sound_item : {t : Tree} {schemas : List Found} → Finds schema_names false [] t schemas → ((place rule : ℕ) → OffendsWhole t place rule → ⊥) → (item : Found) → IsItemIn t schemas item → (rule : ℕ)
    → ItemFault item.around item.element rule → ⊥
sound_item {schemas = schemas} finds none item is rule f = none (at_of item) rule (record { schemas = schemas; found = finds; offends = Offends.item (ItemsOffend.alone item is f refl) })

-- What the first `schemaSpec` gives is the same
module _ {Beside : Tree → Tree → Type 0} {t u : Tree} (p : IsPairing Beside t u) where
  same_first : (f g : Found) (local : List ℕ) → AreBeside Beside f g → given f.element local ≡ given g.element local
  same_first f g local b = same_given local (p.alike f.element g.element b.beside)

  pub same_namespace : {schemas others : List Found} → AreFirstsBeside Beside schemas others → namespace_of schemas ≡ namespace_of others
  same_namespace firsts.none = refl
  same_namespace (firsts.some {f = f} {g = g} b) = ap (λ o. Rattle.std.specs.Prelude.unwrap_or o Rattle.odd_forms.specs.Names.tei_namespace) (same_first f g (codes "ns") b)

  pub same_ident : {schemas others : List Found} → AreFirstsBeside Beside schemas others → ident_in schemas ≡ ident_in others
  same_ident firsts.none = refl
  same_ident (firsts.some {f = f} {g = g} b) = same_first f g (codes "ident") b

  pub same_start : {schemas others : List Found} → AreFirstsBeside Beside schemas others → start_in schemas ≡ start_in others
  same_start firsts.none = refl
  same_start (firsts.some {f = f} {g = g} b) =
      ap (λ o. Rattle.odd_forms.specs.Words.words_of (Rattle.std.specs.Prelude.unwrap_or o (codes "TEI"))) (same_first f g (codes "start") b)

  -- each item of the one is read as an item of the other, but for its place
  entries_there : {doc other : OddDoc} → DeclaresWhole t doc → DeclaresWhole u other → StandThere doc.entries other.entries
  entries_there d e x s =
      let n = d.entries.none_else x s in
      let both = firsts_whole p d.found e.found d.unoffended in
      let h = item_there p (own_ids_whole d.schemas d.found d.unoffended) both n.1 in
      let made = entry_there (namespace_of d.schemas) n.0 h.0 x h.2.around (p.alike n.0.element h.0.element h.2.beside) (sound_item d.found d.unoffended n.0 n.1) n.2 in
      (made.0, e.entries.each h.0 made.0 h.1 (subst (λ ns. IsEntryOf ns h.0 made.0) (same_namespace both) made.1), made.2)

pub docs_there : {Beside : Tree → Tree → Type 0} {t u : Tree} → IsPairing Beside t u → {doc other : OddDoc} → DeclaresWhole t doc → DeclaresWhole u other → doc.asides ≡ other.asides → AreAlike doc other
docs_there {t = t} {u = u} p {doc = doc} {other = other} d e asides =
    let both = firsts_whole p d.found e.found d.unoffended in
    record {
      ident = same_Some doc.ident other.ident (sym d.ident ∙ same_ident p both ∙ e.ident);
      start = one_set text_cmp nat_list_cmp_total (StandsIn (start_in e.schemas)) doc.start other.start
          (subst (λ words. IsSet text_cmp (StandsIn words) doc.start) (same_start p both) d.start) e.start;
      asides = asides;
      there = entries_there p d e;
      back = entries_there (turned p) e d;
      one = one_spec t doc d;
      other_one = one_spec u other e;
    }
