-- A file that says the same in another order as one that declares a doc declares a doc: the entries of that one, each at the place of the item that its own has become.
use Rattle.std.proofs.Common.{◌≡◌, ◌<◌, ◌⊎◌, ℕ, true, false, List, [], ◌∷◌, ◌++◌, inl, inr, ⊎_elim, if◌then◌else◌, refl, sym, ap, subst, ◌∙◌, arith}
use Rattle.std.proofs.lemmas.Bool.{cases_lt, le-ltb, lt-ltb}
use Rattle.std.specs.Prelude.{nat_lt}
use Rattle.odd_text.specs.Text.{text_cmp}
use Rattle.odd_text.proofs.InList.{first_or_later, nothing_stands, stands_first, stands_later}
use Rattle.odd_text.specs.Standing.{StandsIn}
use Rattle.odd_tree.specs.Formed.{IsFormed}
use Rattle.odd_tree.specs.declared.tree.Tree.{Tree, out-Tree}
use Rattle.odd_text.specs.Sorted.{IsSet}
use Rattle.odd_items.proofs.Standing.{item_under, same_place}
use Rattle.odd_items.specs.Groups.{IsItemIn, schema_names}
use Rattle.odd_items.specs.Search.{Finds, Found}
use Rattle.odd_library.specs.Odd.{place_of}
use Rattle.odd_library.specs.declared.odd.Entry.{Entry}
use Rattle.odd_library.specs.declared.odd.OddDoc.{OddDoc}
use Rattle.odd_decls.proofs.ItemsRead.{entry_place}
use Rattle.odd_decls.proofs.OneDoc.{one_read}
use Rattle.odd_decls.specs.Declares.{DeclaresWhole, IsEntryOf, PlacesRise, namespace_of}
use Rattle.odd_decls.specs.Items.{at_of}
use Rattle.odd_decls.specs.Offences.{OffendsWhole}
use Rattle.order_laws.proofs.DocsThere.{same_ident, same_namespace, same_start, sound_item}
use Rattle.order_laws.proofs.EntriesThere.{entry_there}
use Rattle.order_laws.proofs.OffendsThere.{firsts_whole, own_ids_whole, unoffended_there}
use Rattle.order_laws.proofs.Pairing.{AreBeside, AreFirstsBeside, IsPairing, firsts_turned, item_there, own_ids_there, turned}

-- Entries by their places

-- each is above all before it
abbrev IsAbove : Entry → List Entry → Type 0
IsAbove e es = (f : Entry) → StandsIn es f → place_of e < place_of f

data Rise : List Entry → Type 0 where
  none : Rise []
  more : {e : Entry} {es : List Entry} → IsAbove e es → Rise es → Rise (e ∷ es)

rising : (es : List Entry) → PlacesRise es → Rise es
rising [] rise = none
rising (e ∷ es) rise = more (above e es rise) (rising es (later e es rise))
  where
    later : (e : Entry) (es : List Entry) → PlacesRise (e ∷ es) → PlacesRise es
    later e es rise before after f next is = rise (e ∷ before) after f next (ap (λ fs. e ∷ fs) is)

    above : (e : Entry) (es : List Entry) → PlacesRise (e ∷ es) → IsAbove e es
    above e [] rise f s = absurd (nothing_stands f s)
    above e (g ∷ es) rise f s =
        let less : place_of e < place_of g = rise [] es e g refl in
        ⊎_elim (λ same. subst (λ h. place_of e < place_of h) (sym same) less) (λ behind. let more = above g es (later e (g ∷ es) rise) f behind in omega (arith, less, more)) (first_or_later g f es s)

places_rise : {es : List Entry} → Rise es → PlacesRise es
places_rise none before after e next is = absurd (nothing_stands e (before, next ∷ after, is))
places_rise (more {e = f} {es = es} above r) [] after e next is =
    let same : f ≡ e = cc in
    let rest : es ≡ next ∷ after = cc in
    subst (λ g. place_of g < place_of next) same (above next ([], after, rest))
places_rise (more {es = es} above r) (b ∷ before) after e next is = let rest : es ≡ before ++ e ∷ (next ∷ after) = cc in places_rise r before after e next rest

-- an entry put at its place
abbrev put_in : Entry → List Entry → List Entry
put_in e [] = e ∷ []
put_in e (f ∷ fs) = if nat_lt (place_of e) (place_of f) then e ∷ f ∷ fs else f ∷ put_in e fs

in_put : (e : Entry) (fs : List Entry) (x : Entry) → StandsIn (put_in e fs) x → (x ≡ e) ⊎ StandsIn fs x
in_put e [] x s = ⊎_elim (λ same. inl same) (λ later. absurd (nothing_stands x later)) (first_or_later e x [] s)
in_put e (f ∷ fs) x s = elim (nat_lt (place_of e) (place_of f)) as (λ b. StandsIn (if b then e ∷ f ∷ fs else f ∷ put_in e fs) x → (x ≡ e) ⊎ StandsIn (f ∷ fs) x) [
  | true ↦ λ k. first_or_later e x (f ∷ fs) k
  | false ↦ λ k. ⊎_elim (λ same. inr (subst (StandsIn (f ∷ fs)) (sym same) (stands_first f fs))) (λ later. ⊎_elim (λ i. inl i) (λ i. inr (stands_later f x fs i)) (in_put e fs x later)) (first_or_later f x (put_in e fs) k)
] s

put_first : (e : Entry) (fs : List Entry) → StandsIn (put_in e fs) e
put_first e [] = stands_first e []
put_first e (f ∷ fs) = elim (nat_lt (place_of e) (place_of f)) as (λ b. StandsIn (if b then e ∷ f ∷ fs else f ∷ put_in e fs) e) [
  | true ↦ stands_first e (f ∷ fs)
  | false ↦ stands_later f e (put_in e fs) (put_first e fs)
]

put_beside : (e : Entry) (fs : List Entry) (x : Entry) → StandsIn fs x → StandsIn (put_in e fs) x
put_beside e [] x s = absurd (nothing_stands x s)
put_beside e (f ∷ fs) x s = elim (nat_lt (place_of e) (place_of f)) as (λ b. StandsIn (if b then e ∷ f ∷ fs else f ∷ put_in e fs) x) [
  | true ↦ stands_later e x (f ∷ fs) s
  | false ↦
      ⊎_elim (λ same. subst (StandsIn (f ∷ put_in e fs)) (sym same) (stands_first f (put_in e fs))) (λ later. stands_later f x (put_in e fs) (put_beside e fs x later)) (first_or_later f x fs s)
]

put_rises : (e : Entry) {fs : List Entry} → Rise fs → ((f : Entry) → StandsIn fs f → place_of f ≡ place_of e → ⊥) → Rise (put_in e fs)
put_rises e none apart = more (λ f s. absurd (nothing_stands f s)) none
put_rises e (more {e = f} {es = fs} above r) apart = elim (cases_lt (place_of e) (place_of f)) [
  | inl is ↦
      let over : IsAbove e (f ∷ fs) = λ g s.
      ⊎_elim (λ same. subst (λ h. place_of e < place_of h) (sym same) is) (λ later. let more : place_of f < place_of g = above g later in omega (arith, is, more)) (first_or_later f g fs s) in
      rw (lt-ltb (place_of e) (place_of f) is) (more over (more above r))
  | inr not_less ↦
      let is : place_of f < place_of e = omega (arith, not_less, apart f (stands_first f fs)) in
      let over : IsAbove f (put_in e fs) = λ g s. ⊎_elim (λ same. subst (λ h. place_of f < place_of h) (sym same) is) (λ later. above g later) (in_put e fs g s) in
      rw (le-ltb (place_of e) (place_of f) not_less) (more over (put_rises e r (λ g s. apart g (stands_later f g fs s))))
]

-- The doc

-- one element begins at one place
same_at : {x y : Tree} → x ≡ y → (out-Tree x).at ≡ (out-Tree y).at
same_at e = ap (λ t. (out-Tree t).at) e

module _ {Beside : Tree → Tree → Type 0} {t u : Tree} (p : IsPairing Beside t u) {first end other_first other_end : ℕ} (formed : IsFormed first end t) (formed_there : IsFormed other_first other_end u)
    {doc : OddDoc} (d : DeclaresWhole t doc) (others : List Found) (finds : Finds schema_names false [] u others) where
  both : AreFirstsBeside Beside d.schemas others
  both = firsts_whole p d.found finds d.unoffended

  unoffended : (place rule : ℕ) → OffendsWhole u place rule → ⊥
  unoffended = unoffended_there p d.unoffended

  abbrev ns : List ℕ
  ns = namespace_of d.schemas

  -- the entry that an item of the other file is read as, of an item that is read as the entry
  record HasBecome (e : Entry) : Type 0 where
    item : Found
    is_item : IsItemIn t d.schemas item
    read : IsEntryOf ns item e
    there : Found
    is_there : IsItemIn u others there
    beside : AreBeside Beside item there
    made : Entry
    made_read : IsEntryOf ns there made

  become : (e : Entry) → StandsIn doc.entries e → HasBecome e
  become e s =
      let n = d.entries.none_else e s in
      let h = item_there p (own_ids_whole d.schemas d.found d.unoffended) both n.1 in
      let made = entry_there ns n.0 h.0 e h.2.around (p.alike n.0.element h.0.element h.2.beside) (sound_item d.found d.unoffended n.0 n.1) n.2 in
      record { item = n.0; is_item = n.1; read = n.2; there = h.0; is_there = h.1; beside = h.2; made = made.0; made_read = made.1 }

  -- items that are read as the entry are one
  one_item : (e : Entry) (item other : Found) → IsItemIn t d.schemas item → IsItemIn t d.schemas other → IsEntryOf ns item e → IsEntryOf ns other e → item ≡ other
  one_item e item other is also read other_read =
      same_place first end [] t item other formed (item_under t d.schemas d.found item is) (item_under t d.schemas d.found other also) (sym (entry_place ns item e read) ∙ entry_place ns other e other_read)

  -- what they have become, by places
  record AreBecome (es : List Entry) : Type 0 where
    all : List Entry
    rise : Rise all
    each_of : (f : Entry) → StandsIn all f → (e : Entry) × StandsIn es e × (h : HasBecome e) × (f ≡ h.made)
    all_are : (e : Entry) → StandsIn es e → (h : HasBecome e) × StandsIn all h.made

  -- of two entries at different places the entries that they have become are at different places
  apart : (e f : Entry) (h : HasBecome e) (k : HasBecome f) → place_of e < place_of f → place_of k.made ≡ place_of h.made → ⊥
  apart e f h k less same =
      let there : at_of h.there ≡ at_of k.there = sym (entry_place ns h.there h.made h.made_read) ∙ sym same ∙ entry_place ns k.there k.made k.made_read in
      let one = p.one_back h.item.element h.there.element k.item.element k.there.element h.beside.beside k.beside.beside there in
      let places : place_of e ≡ place_of f = entry_place ns h.item e h.read ∙ same_at one.0 ∙ sym (entry_place ns k.item f k.read) in
      omega (arith, less, places)

  all_become : (es : List Entry) → Rise es → ((e : Entry) → StandsIn es e → StandsIn doc.entries e) → AreBecome es
  all_become [] r within = record { all = []; rise = none; each_of = λ f s. absurd (nothing_stands f s); all_are = λ e s. absurd (nothing_stands e s) }
  all_become (e ∷ es) (more above r) within =
      let k = all_become es r (λ f s. within f (stands_later e f es s)) in
      let h = become e (within e (stands_first e es)) in
      record {
        all = put_in h.made k.all;
        rise = put_rises h.made k.rise (λ f s same. (let o = k.each_of f s in apart e o.0 h o.2 (above o.0 o.1) (sym (ap place_of o.3) ∙ same)));
        each_of = λ f s.
            ⊎_elim (λ is. (e, stands_first e es, h, is)) (λ later. let o = k.each_of f later in (o.0, stands_later e o.0 es o.1, o.2, o.3)) (in_put h.made k.all f s);
        all_are = λ f s.
            ⊎_elim (λ is. subst (λ x. (g : HasBecome x) × StandsIn (put_in h.made k.all) g.made) (sym is) (h, put_first h.made k.all))
            (λ later. let o = k.all_are f later in (o.0, put_beside h.made k.all o.0.made o.1)) (first_or_later e f es s);
      }

  become_all : AreBecome doc.entries
  become_all = all_become doc.entries (rising doc.entries d.rising) (λ e s. s)

  -- an item of the other file is read as an entry that one has become
  each_entry : (item : Found) (made : Entry) → IsItemIn u others item → IsEntryOf ns item made → StandsIn become_all.all made
  each_entry item made is read =
      let q = turned p in
      let here = item_there q (own_ids_there p (own_ids_whole d.schemas d.found d.unoffended)) (firsts_turned both) is in
      let e = entry_there ns item here.0 made here.2.around (q.alike item.element here.0.element here.2.beside) (sound_item finds unoffended item is) read in
      let k = become_all.all_are e.0 (d.entries.each here.0 e.0 here.1 e.1) in
      let items : k.0.item ≡ here.0 = one_item e.0 k.0.item here.0 k.0.is_item here.1 k.0.read e.1 in
      let elements = p.one k.0.item.element k.0.there.element here.0.element item.element k.0.beside.beside here.2.beside (ap at_of items) in
      let there : k.0.there ≡ item =
      same_place other_first other_end [] u k.0.there item formed_there (item_under u others finds k.0.there k.0.is_there) (item_under u others finds item is)
      (same_at {x = k.0.there.element} elements.1) in
      subst (StandsIn become_all.all) (one_read u others ns item k.0.made made unoffended finds is (subst (λ x. IsEntryOf ns x k.0.made) there k.0.made_read) read) k.1

  pub doc_made : (other : OddDoc) × DeclaresWhole u other × (other.asides ≡ doc.asides)
  doc_made =
      let same = same_namespace p both in (
        record { ident = doc.ident; start = doc.start; entries = become_all.all; asides = doc.asides },
        record {
          unoffended = unoffended;
          schemas = others;
          found = finds;
          ident = sym (same_ident p both) ∙ d.ident;
          start = subst (λ words. IsSet text_cmp (StandsIn words) doc.start) (same_start p both) d.start;
          entries = record {
            none_else = λ f s.
                let o = become_all.each_of f s in
                (o.2.there, o.2.is_there, subst (λ x. IsEntryOf (namespace_of others) o.2.there x) (sym o.3) (subst (λ n. IsEntryOf n o.2.there o.2.made) same o.2.made_read));
            each = λ item made is read. each_entry item made is (subst (λ n. IsEntryOf n item made) (sym same) read);
          };
          rising = places_rise become_all.rise;
        },
        refl,
      )
