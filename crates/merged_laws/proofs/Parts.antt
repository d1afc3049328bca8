-- What each part of a content says is right by its form, and is read back.
use Rattle.std.proofs.Common.{◌≡◌, ◌≢◌, ◌≤◌, ◌<◌, ◌==◌, ◌&&◌, ◌||◌, ℕ, zero, Bool, true, false, if◌then◌else◌, List, [], ◌∷◌, ◌++◌, length, get_or, map, Option, Some, None, inl, inr, ⊎_elim, refl, sym, ap, ap₂, ◌∙◌, append_assoc, append-nil, arith}
use Rattle.std.specs.Prelude.{All, codes, unwrap_or}
use Rattle.std.specs.List.{after_first, before_first, cons_option, position_or_len}
use Rattle.std.specs.Option.{option_map}
use Rattle.std.proofs.lemmas.Bool.{and_parts, both_ways, cases_Bool, cases_lt, eqb-true}
use Rattle.std.proofs.lemmas.List.{drop_all}
use Rattle.std.proofs.lemmas.List.Elements.{All-append, All-cons, All-head, All-nil, All-tail, filter_map-append}
use Rattle.std.proofs.lemmas.List.Folds.{list_any-append}
use Rattle.std.proofs.lemmas.List.Sums.{passes_at_first, split_at_first}
use Rattle.std.proofs.lemmas.Option.{same_Some}
use Rattle.std.proofs.lemmas.Str.{chars-nil}
use Rattle.odd_text.specs.NameOrder.{name_cmp}
use Rattle.odd_text.specs.Text.{text_cmp}
use Rattle.odd_text.specs.declared.name.Bind.{Bind}
use Rattle.odd_text.specs.declared.name.Name.{Name}
use Rattle.odd_tokens.specs.Characters.{IsNCName, is_ncname}
use Rattle.odd_tree.specs.Elements.{given}
use Rattle.odd_tree.proofs.PrintedTrees.{bind_of}
use Rattle.odd_tree.specs.Markup.{Markup}
use Rattle.odd_tree.specs.Names.{in_force, xml_namespace}
use Rattle.odd_tree.specs.declared.tree.Tree.{Tree, out-Tree}
use Rattle.rng_types.specs.Bounds.{IsFormedBounds}
use Rattle.rng_types.specs.declared.bounds.Bounds.{Bounds}
use Rattle.odd_forms.proofs.Colon.{and_no, name_decides}
use Rattle.odd_forms.specs.Excepting.{IsPrefixed, excepted_of, has_unbound, is_colon, is_name, is_unbound, named_in}
use Rattle.odd_forms.specs.Form.{number_told}
use Rattle.odd_forms.specs.Form as kinds
use Rattle.odd_text.specs.Sorted.{set_of}
use Rattle.odd_forms.specs.Words.{words_of}
use Rattle.odd_forms.specs.declared.element.Element.TheVariants as kind
use Rattle.odd_forms.specs.declared.excepted.Excepted.TheVariants as excepted
use Rattle.odd_content.specs.Occurrence.{bounds_in, maximum_told}
use Rattle.odd_content.proofs.Conditions.{names_sorted, texts_sorted}
use Rattle.odd_content.specs.Condition.{condition_of, name_of, names_among, space_of, spaces_among}
use Rattle.odd_content.specs.Formed.{IsExceptedNamespace, IsFormedCondition, IsFormedPick, IsNamespace}
use Rattle.odd_content.specs.Giving.{pick_in, pick_of}
use Rattle.odd_content.specs.declared.content.Condition.{Condition}
use Rattle.odd_content.specs.declared.content.Pick.{Pick}
use Rattle.odd_content.specs.declared.content.Pick.TheVariants as pick
use Rattle.odd_emit.specs.Contents as printed
use Rattle.odd_emit.specs.Contents.{bounds_said, condition_said, except_words, included, is_once, is_one, key_said, pick_said, prefixed_from, prefixes_of, words_value}
use Rattle.odd_emit.specs.Saying.{written}
use Rattle.merged_laws.proofs.Fits.{IsFormedIfThere}
use Rattle.merged_laws.proofs.Often.{bounds_in_order, greatest_formed}
use Rattle.merged_laws.proofs.Prefixes.{AreNamed, names_named, prefixes_plain}
use Rattle.merged_laws.proofs.Says.{Says, SaysWith}
use Rattle.merged_laws.proofs.Values.{IsWord, names_words, words_back}

-- Bounds

-- once, where nothing is said
once_bounds : (least : ℕ) (most : Option ℕ) → (least == 1 && is_one most) ≡ true → (least ≡ 1) × (most ≡ Some 1)
once_bounds least None e = absurd (both_ways false refl (and_parts (least == 1) false e).1)
once_bounds least (Some n) e =
    let k = and_parts (least == 1) (n == 1) e in
    (eqb-true least 1 k.0, ap Some (eqb-true n 1 k.1))

pub once_back : (t : Tree) (b : Bounds) → is_once b ≡ true → given t (codes "minOccurs") ≡ None → given t (codes "maxOccurs") ≡ None → bounds_in (out-Tree t).attrs ≡ b
once_back t b o e f =
    let k = once_bounds b.min b.max o in
    let made : ℕ → Option ℕ → Bounds = λ min max. record { min = min; max = max } in
    ap₂ made (ap (λ x. unwrap_or (number_told x) 1) e ∙ sym k.0) (ap maximum_told f ∙ sym k.1)

-- Picks

pick_of_some : (words : List (List ℕ)) → words ≢ [] → pick_of words [] ≡ pick.Include words
pick_of_some [] some = absurd (some refl)
pick_of_some (w ∷ ws) some = refl

pick_of_other : (words : List (List ℕ)) → words ≢ [] → pick_of [] words ≡ pick.Except words
pick_of_other [] some = absurd (some refl)
pick_of_other (w ∷ ws) some = refl

both_words : (p : Pick) → IsFormedPick p → pick_of (words_of (unwrap_or (option_map written (included p)) [])) (words_of (unwrap_or (option_map written (printed.excepted p)) [])) ≡ p
both_words pick.All h = refl
both_words (pick.Include words) h = ap (λ ws. pick_of ws []) (words_back words (names_words words h.1)) ∙ pick_of_some words h.0
both_words (pick.Except words) h = ap (λ ws. pick_of [] ws) (words_back words (names_words words h.1)) ∙ pick_of_other words h.0

pub pick_back : (t : Tree) (p : Pick) → IsFormedPick p → given t (codes "include") ≡ option_map written (included p) → given t (codes "except") ≡ option_map written (printed.excepted p)
    → pick_in (out-Tree t).attrs ≡ p
pick_back t p h e f = ap₂ (λ x y. pick_of (words_of (unwrap_or x [])) (words_of (unwrap_or y []))) e f ∙ both_words p h

-- The elements

pub empty_says : Says kind.Empty [] []
empty_says = record { sayable = refl; right = refl; formed = tt; met = λ binds. tt; few = tt }

pub text_says : Says kind.TextNode [] []
text_says = record { sayable = refl; right = refl; formed = tt; met = λ binds. tt; few = tt }

pub element_says : (key : List ℕ) (b : Bounds) → IsNCName key → IsFormedBounds b → Says kind.ElementRef (key_said key ∷ bounds_said b) []
element_says key b n h =
    record { sayable = refl; right = refl; formed = (n, (h.least, (greatest_formed b.max h.greatest, tt))); met = λ binds. (bounds_in_order b h, tt); few = tt }

pub macro_says : (key : List ℕ) (b : Bounds) → IsNCName key → IsFormedBounds b → Says kind.MacroRef (key_said key ∷ bounds_said b) []
macro_says key b n h =
    record { sayable = refl; right = refl; formed = (n, (h.least, (greatest_formed b.max h.greatest, tt))); met = λ binds. (bounds_in_order b h, tt); few = tt }

once_in_order : (m n : ℕ) → number_told None ≡ Some m → number_told None ≡ Some n → m ≤ n
once_in_order m n e f =
    let least : 1 ≡ m = same_Some _ _ e in
    let most : 1 ≡ n = same_Some _ _ f in
    omega arith

pub macro_once_says : (key : List ℕ) → IsNCName key → Says kind.MacroRef (key_said key ∷ []) []
macro_once_says key n = record { sayable = refl; right = refl; formed = (n, tt); met = λ binds. (once_in_order, tt); few = tt }

pub sequence_says : (b : Bounds) (inside : List Markup) → IsFormedBounds b → Says kind.Sequence (bounds_said b) inside
sequence_says b inside h =
    record { sayable = refl; right = refl; formed = (h.least, (greatest_formed b.max h.greatest, tt)); met = λ binds. (bounds_in_order b h, tt); few = tt }

pub alternate_says : (b : Bounds) (inside : List Markup) → IsFormedBounds b → Says kind.Alternate (bounds_said b) inside
alternate_says b inside h =
    record { sayable = refl; right = refl; formed = (h.least, (greatest_formed b.max h.greatest, tt)); met = λ binds. (bounds_in_order b h, tt); few = tt }

pub content_says : (inside : List Markup) → Says kind.Content [] inside
content_says inside = record { sayable = refl; right = refl; formed = tt; met = λ binds. tt; few = tt }

pub class_says : (key : List ℕ) (p : Pick) (b : Bounds) → IsNCName key → IsFormedPick p → IsFormedBounds b → Says kind.ClassRef (key_said key ∷ pick_said p ++ bounds_said b) []
class_says key pick.All b n k h = record {
  sayable = refl;
  right = refl;
  formed = (n, (tt, (tt, (h.least, (greatest_formed b.max h.greatest, tt)))));
  met = λ binds. (bounds_in_order b h, (inl refl, tt));
  few = tt;
}
class_says key (pick.Include words) b n k h = record {
  sayable = refl;
  right = refl;
  formed = (n, (k.1, (tt, (h.least, (greatest_formed b.max h.greatest, tt)))));
  met = λ binds. (bounds_in_order b h, (inr refl, tt));
  few = tt;
}
class_says key (pick.Except words) b n k h = record {
  sayable = refl;
  right = refl;
  formed = (n, (tt, (k.1, (h.least, (greatest_formed b.max h.greatest, tt)))));
  met = λ binds. (bounds_in_order b h, (inl refl, tt));
  few = tt;
}

-- The condition of an `anyElement`

-- a namespace that is not written as a prefixed name is read as one
module _ (w : List ℕ) where
  after_some : is_name (after_first is_colon w) ≡ true → position_or_len is_colon w < length w
  after_some named =
      ⊎_elim (λ low. low)
      (λ high.
      let none : after_first is_colon w ≡ [] = drop_all _ w (omega arith) in
      absurd (both_ways (is_name (after_first is_colon w)) (ap is_name none ∙ and_no _ _ (ap is_ncname chars-nil)) named))
      (cases_lt (position_or_len is_colon w) (length w))

  parted : (is_name (before_first is_colon w) && is_name (after_first is_colon w)) ≡ true → IsPrefixed w (before_first is_colon w) (after_first is_colon w)
  parted h =
      let k = and_parts (is_name (before_first is_colon w)) (is_name (after_first is_colon w)) h in
      let low = after_some k.1 in
      let colon : get_or w (position_or_len is_colon w) 0 ≡ 58 = eqb-true _ 58 (passes_at_first is_colon w 0 low) in
      record {
        is = split_at_first is_colon w 0 low ∙ ap (λ c. before_first is_colon w ++ c ∷ after_first is_colon w) colon ∙ sym (append_assoc (before_first is_colon w) (codes ":") (after_first is_colon w));
        prefix_named = (name_decides _).0 k.0;
        local_named = (name_decides _).0 k.1;
      }

  pub space_read : (binds : List Bind) → IsExceptedNamespace w → excepted_of binds w ≡ excepted.Space w
  space_read binds h =
      ⊎_elim (λ yes. absurd (h.unprefixed _ _ (parted yes)))
      (λ no. ap (λ b. if b then named_in (in_force binds (before_first is_colon w)) (after_first is_colon w) else excepted.Space w) no)
      (cases_Bool (is_name (before_first is_colon w) && is_name (after_first is_colon w)))

space_word : (w : List ℕ) → IsNamespace w → IsWord w
space_word w h = record { legal = h.legal; filled = h.filled; unspaced = h.unspaced }

pub require_words : (words : List (List ℕ)) → All IsNamespace words → All IsWord words
require_words words h = λ k d l. space_word _ (h k d l)

pub spaces_words : (words : List (List ℕ)) → All IsExceptedNamespace words → All IsWord words
spaces_words words h = λ k d l. space_word _ (h k d l).is_namespace

words_formed : (words : List (List ℕ)) → All IsWord words → IsFormedIfThere kinds.text (words_value words)
words_formed [] h = tt
words_formed (w ∷ ws) h = h

pub words_again : (words : List (List ℕ)) → All IsWord words → words_of (unwrap_or (option_map written (words_value words)) []) ≡ words
words_again [] h = refl
words_again (w ∷ ws) h = words_back (w ∷ ws) h

spaces_bound : (binds : List Bind) (words : List (List ℕ)) → All IsExceptedNamespace words → has_unbound binds words ≡ false
spaces_bound binds [] h = refl
spaces_bound binds (w ∷ ws) h =
    ap₂ (λ (a b : Bool). a || b) (ap is_unbound (space_read w binds (All-head IsExceptedNamespace w ws h))) (spaces_bound binds ws (All-tail IsExceptedNamespace w ws h))

-- they are read again
spaces_again : (binds : List Bind) (words : List (List ℕ)) → All IsExceptedNamespace words → spaces_among binds words ≡ words
spaces_again binds [] h = refl
spaces_again binds (w ∷ ws) h =
    ap₂ (λ (o : Option (List ℕ)) (xs : List (List ℕ)). cons_option o xs) (ap space_of (space_read w binds (All-head IsExceptedNamespace w ws h))) (spaces_again binds ws (All-tail IsExceptedNamespace w ws h))

no_names : (binds : List Bind) (words : List (List ℕ)) → All IsExceptedNamespace words → names_among binds words ≡ []
no_names binds [] h = refl
no_names binds (w ∷ ws) h =
    ap₂ (λ (o : Option Name) (xs : List Name). cons_option o xs) (ap name_of (space_read w binds (All-head IsExceptedNamespace w ws h))) (no_names binds ws (All-tail IsExceptedNamespace w ws h))

-- Words that name are words, of which none is unbound and none a namespace

named_words : (binds : List Bind) (ws : List (List ℕ)) (names : List Name) → AreNamed binds ws names → All IsWord ws
named_words binds [] [] n = All-nil IsWord
named_words binds [] (name ∷ names) n = absurd n
named_words binds (w ∷ ws) [] n = absurd n
named_words binds (w ∷ ws) (name ∷ names) n = All-cons IsWord w ws n.1 (named_words binds ws names n.2)

named_bound : (binds : List Bind) (ws : List (List ℕ)) (names : List Name) → AreNamed binds ws names → has_unbound binds ws ≡ false
named_bound binds [] [] n = refl
named_bound binds [] (name ∷ names) n = absurd n
named_bound binds (w ∷ ws) [] n = absurd n
named_bound binds (w ∷ ws) (name ∷ names) n = ap₂ (λ (a b : Bool). a || b) (ap is_unbound n.0) (named_bound binds ws names n.2)

named_spaces : (binds : List Bind) (ws : List (List ℕ)) (names : List Name) → AreNamed binds ws names → spaces_among binds ws ≡ []
named_spaces binds [] [] n = refl
named_spaces binds [] (name ∷ names) n = absurd n
named_spaces binds (w ∷ ws) [] n = absurd n
named_spaces binds (w ∷ ws) (name ∷ names) n = ap₂ (λ (o : Option (List ℕ)) (xs : List (List ℕ)). cons_option o xs) (ap space_of n.0) (named_spaces binds ws names n.2)

named_names : (binds : List Bind) (ws : List (List ℕ)) (names : List Name) → AreNamed binds ws names → names_among binds ws ≡ names
named_names binds [] [] n = refl
named_names binds [] (name ∷ names) n = absurd n
named_names binds (w ∷ ws) [] n = absurd n
named_names binds (w ∷ ws) (name ∷ names) n = ap₂ (λ (o : Option Name) (xs : List Name). cons_option o xs) (ap name_of n.0) (named_names binds ws names n.2)

module _ (c : Condition) (k : IsFormedCondition c) (around : List Bind) where
  -- the declarations in force where the condition stands, and the words of the names that it excepts
  abbrev binds : List Bind
  binds = around ++ map bind_of (prefixes_of c)

  abbrev name_words : List (List ℕ)
  name_words = prefixed_from xml_namespace zero c.names

  named : AreNamed binds name_words c.names
  named = names_named around c.names k.names

  except_are : All IsWord (except_words c)
  except_are = All-append IsWord c.spaces name_words (spaces_words c.spaces k.spaces) (named_words binds name_words c.names named)

  except_bound : has_unbound binds (except_words c) ≡ false
  except_bound =
      list_any-append (λ word. is_unbound (excepted_of binds word)) c.spaces name_words
      ∙ ap₂ (λ (a b : Bool). a || b) (spaces_bound binds c.spaces k.spaces) (named_bound binds name_words c.names named)

  spaces_are : spaces_among binds (except_words c) ≡ c.spaces
  spaces_are =
      filter_map-append (λ word. space_of (excepted_of binds word)) c.spaces name_words
      ∙ ap₂ (λ (xs ys : List (List ℕ)). xs ++ ys) (spaces_again binds c.spaces k.spaces) (named_spaces binds name_words c.names named) ∙ append-nil c.spaces

  names_are : names_among binds (except_words c) ≡ c.names
  names_are =
      filter_map-append (λ word. name_of (excepted_of binds word)) c.spaces name_words
      ∙ ap₂ (λ (xs ys : List Name). xs ++ ys) (no_names binds c.spaces k.spaces) (named_names binds name_words c.names named)

  -- it is read as it
  pub condition_back : (require except : List (List ℕ)) → require ≡ c.require → except ≡ except_words c → condition_of binds require except ≡ c
  condition_back require except e f =
      let required : set_of text_cmp require ≡ c.require =
      ap (set_of text_cmp) e ∙ sym (texts_sorted c.require c.require (record { rising = k.require_rise; none_else = λ w s. s; each = λ w s. s })) in
      let spaces : set_of text_cmp (spaces_among binds except) ≡ c.spaces =
      ap (λ ws. set_of text_cmp (spaces_among binds ws)) f ∙ ap (set_of text_cmp) spaces_are
      ∙ sym (texts_sorted c.spaces c.spaces (record { rising = k.spaces_rise; none_else = λ w s. s; each = λ w s. s })) in
      let names : set_of name_cmp (names_among binds except) ≡ c.names =
      ap (λ ws. set_of name_cmp (names_among binds ws)) f ∙ ap (set_of name_cmp) names_are
      ∙ sym (names_sorted c.names c.names (record { rising = k.names_rise; none_else = λ n s. s; each = λ n s. s })) in
      λ i. record { require = required i; spaces = spaces i; names = names i }

pub except_again : (c : Condition) → IsFormedCondition c → words_of (unwrap_or (option_map written (words_value (except_words c))) []) ≡ except_words c
except_again c k = words_again (except_words c) (except_are c k [])

pub any_says : (c : Condition) (b : Bounds) → IsFormedCondition c → IsFormedBounds b → SaysWith kind.AnyElement (prefixes_of c) (condition_said c ++ bounds_said b)
any_says c b k h = record {
  sayable = refl;
  right = refl;
  formed = (words_formed c.require (require_words c.require k.require), (words_formed (except_words c) (except_are c k []), (h.least, (greatest_formed b.max h.greatest, tt))));
  declared = prefixes_plain c.names k.names;
  met = λ around. (bounds_in_order b h, (ap (has_unbound (around ++ map bind_of (prefixes_of c))) (except_again c k) ∙ except_bound c k around, tt));
  few = tt;
}
