-- An element that holds a text.
use Rattle.std.proofs.Common.{◌≡◌, ℕ, ◌<◌, true, false, List, [], ◌∷◌, ◌||◌, None, refl, sym, ap, subst, ◌∙◌, append-nil, arith, rules}
use Rattle.std.proofs.Math.Utf8.{encode, scalars}
use Rattle.std.specs.List.{list_all, list_any}
use Rattle.std.specs.Str.{chars, encode_utf8_all}
use Rattle.std.proofs.lemmas.Bool.{and_from, and_parts, both_ways, false_from_ne_true, or_parts}
use Rattle.std.proofs.lemmas.Bool.Decides.{nat_tests}
use Rattle.std.proofs.lemmas.List.Elements.{All-nil}
use Rattle.std.proofs.lemmas.List.Folds.{list_any-append}
use Rattle.std.proofs.lemmas.Str.{chars-encodes, encode_ascii}
use Rattle.odd_text.specs.declared.name.Bind.{Bind}
use Rattle.odd_tokens.proofs.Ascii.{is_name}
use Rattle.odd_tokens.proofs.Characters.{char_scalar, none_twice}
use Rattle.odd_tokens.specs.Characters.{IsLegal, is_char, is_space}
use Rattle.odd_text.specs.Standing.{StandsIn}
use Rattle.odd_tree.specs.Elements.{attribute_value, children_of, elements_of, given, shown_text, text_of, texts_in, within}
use Rattle.odd_tree.specs.Markup.{line}
use Rattle.odd_tree.specs.declared.tree.Node as N
use Rattle.odd_tree.specs.declared.tree.Node.{Text, out-Node}
use Rattle.odd_tree.specs.declared.tree.Tree.{Tree, out-Tree}
use Rattle.odd_tree.proofs.InTree.{with_text}
use Rattle.odd_text.proofs.InList.{nothing_stands, only_item}
use Rattle.odd_tree.proofs.PrintedTrees.{IsPlain, IsPlainAttribute, Shows, text_nodes}
use Rattle.rng_types.proofs.Spaced.{all_words, words_after}
use Rattle.rng_types.specs.Words.{words_of}
use Rattle.rng_values.specs.Treated.{collapsed_text, spaced}
use Rattle.odd_forms.specs.Deep.{DeepFault, level_by}
use Rattle.odd_forms.specs.Faults.{DemandFault, FormFault, OwnFault}
use Rattle.odd_forms.specs.Form.{Kind, Suits, own_text}
use Rattle.odd_forms.specs.Names.{tei, tei_namespace}
use Rattle.odd_forms.specs.Table.{form_at}
use Rattle.odd_forms.specs.declared.element.Element.{Element}
use Rattle.odd_forms.specs.declared.form.Level.TheVariants as level
use Rattle.merged_laws.proofs.Says.{IsSound, names_ascii}
use Rattle.merged_laws.proofs.Values.{IsWord, ended_some, over}

-- its text is the text, and no element is in it
text_shown : (x : List ℕ) → shown_text (out-Node (Text x)) ≡ x
text_shown x = search (rules, N.the_lemmas)

texts_alone : (x : List ℕ) → texts_in (text_nodes x) ≡ x
texts_alone [] = refl
texts_alone (c ∷ cs) = append-nil (shown_text (out-Node (Text (c ∷ cs)))) ∙ text_shown (c ∷ cs)

elements_none : (x : List ℕ) → elements_of (text_nodes x) ≡ []
elements_none [] = refl
elements_none (c ∷ cs) = with_text (c ∷ cs) []

-- what a tree has that shows it
pub record IsLine (name content : List ℕ) (t : Tree) : Type 0 where
  pub named : (out-Tree t).name ≡ tei name
  pub given : (local : List ℕ) → given t local ≡ None
  pub children : children_of t ≡ []
  pub content_is : text_of t ≡ content

pub line_told : (name content : List ℕ) (t : Tree) → Shows tei_namespace [] (line name [] content) t → IsLine name content t
line_told name content t s = record {
  named = s.0.named;
  given = λ local. ap (λ xs. attribute_value xs local) s.0.attributed;
  children = ap elements_of s.1 ∙ elements_none content;
  content_is = ap texts_in s.1 ∙ texts_alone content;
}

-- it is plain
pub line_plain : (e : Element) (content : List ℕ) → IsLegal content → IsPlain (line (form_at e).name [] content)
line_plain e content legal = (record { named = is_name (form_at e).name (names_ascii e); attributed = All-nil IsPlainAttribute; once = none_twice _ tt }, legal)

-- it breaks nothing where its text is of the kind that its form asks for, alone
module _ (e : Element) (k : Kind) (content : List ℕ) (attributes : (form_at e).attributes ≡ []) (left_out : (form_at e).left_out ≡ []) (once : (form_at e).once ≡ []) (demands : (form_at e).demands ≡ own_text k ∷ [])
    (suits : Suits k (collapsed_text content)) where
  own_suits : (binds : List Bind) (t : Tree) (rule : ℕ) → text_of t ≡ content → DemandFault binds t (own_text k) rule → ⊥
  own_suits binds t rule is (DemandFault.not_of_kind other) = other (subst (λ x. Suits k (collapsed_text x)) (sym is) suits)

  form_suits : (binds : List Bind) (t : Tree) (rule : ℕ) → IsLine (form_at e).name content t → FormFault (form_at e) binds t rule → ⊥
  form_suits binds t rule l (FormFault.own (OwnFault.attribute a stands f)) = nothing_stands a (subst (λ xs. StandsIn xs a) attributes stands)
  form_suits binds t rule l (FormFault.own (OwnFault.left_out local stands some)) = nothing_stands local (subst (λ xs. StandsIn xs local) left_out stands)
  form_suits binds t rule l (FormFault.own (OwnFault.demand d stands f)) =
      own_suits binds t rule l.content_is (subst (λ x. DemandFault binds t x rule) (only_item (own_text k) d (subst (λ xs. StandsIn xs d) demands stands)) f)
  form_suits binds t rule l (FormFault.child child stands f) = nothing_stands child (subst (λ ts. StandsIn ts child) l.children stands)
  form_suits binds t rule l (FormFault.twice o stands two) = nothing_stands o (subst (λ xs. StandsIn xs o) once stands)

  pub line_sound : (left : ℕ) → (form_at e).level ≡ level.Never → IsSound e left (line (form_at e).name [] content)
  line_sound left flat around t s rule (DeepFault.itself f) = form_suits (within around t) t rule (line_told (form_at e).name content t s) f
  line_sound left flat around t s rule (DeepFault.deep is none) = both_ways _ (ap (λ l. level_by l (form_at e) t) flat) is
  line_sound left flat around t s rule (DeepFault.inside kind child stands is f) =
      nothing_stands child (subst (λ ts. StandsIn ts child) (line_told (form_at e).name content t s).children stands)

-- a word is collapsed

space_bytes : (c : ℕ) → is_space c ≡ true → list_any is_space (encode c) ≡ true
space_bytes c h = let low : c < 128 = grind (arith, nat_tests) in rw (encode_ascii c low) (ap (λ b. b || false) h)

chars_unspaced : (cs : List ℕ) → list_any is_space (encode_utf8_all cs) ≡ false → list_any is_space cs ≡ false
chars_unspaced [] h = refl
chars_unspaced (c ∷ cs) h =
    let k = or_parts (list_any is_space (encode c)) (list_any is_space (encode_utf8_all cs)) (sym (list_any-append is_space (encode c) (encode_utf8_all cs)) ∙ h) in
    ap (λ b. b || list_any is_space cs) (false_from_ne_true (is_space c) (λ t. both_ways _ k.0 (space_bytes c t))) ∙ chars_unspaced cs k.1

pub all_scalar : (cs : List ℕ) → list_all is_char cs ≡ true → scalars cs ≡ true
all_scalar [] h = refl
all_scalar (c ∷ cs) h = let p = and_parts (is_char c) (list_all is_char cs) h in and_from _ _ (char_scalar c p.0) (all_scalar cs p.1)

one_word : (cs : List ℕ) → list_any is_space cs ≡ false → (cs ≡ [] → ⊥) → words_of cs ≡ cs ∷ []
one_word cs h some = sym (all_words cs) ∙ ap (words_after []) (sym (append-nil cs)) ∙ over [] cs [] h ∙ ended_some cs [] some

pub word_collapsed : (w : List ℕ) → IsWord w → collapsed_text w ≡ w
word_collapsed w h =
    let cs = h.legal.0 in
    let is : chars w ≡ cs = ap chars (sym h.legal.1) ∙ chars-encodes cs (all_scalar cs h.legal.2) in
    let unspaced = chars_unspaced cs (ap (list_any is_space) h.legal.1 ∙ h.unspaced) in
    ap (λ x. encode_utf8_all (spaced (words_of x))) is ∙ ap (λ ws. encode_utf8_all (spaced ws)) (one_word cs unspaced (λ none. h.filled (sym h.legal.1 ∙ ap encode_utf8_all none))) ∙ h.legal.1
