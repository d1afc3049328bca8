-- Sets of texts, and what references to modules refer to, with one more.
use Rattle.std.proofs.Common.{◌≡◌, ℕ, ◌+◌, ◌<◌, Bool, true, false, cond, not, ◌&&◌, ◌||◌, List, take, length, get_or, refl, sym, ap, ◌∙◌, [], Option, Some, None, unwrap_or}
use Rattle.std.proofs.Math.Bool.{beq, or_assoc}
use Rattle.std.proofs.lemmas.Cmp.{nat_list_eq_equiv}
use Rattle.std.proofs.lemmas.List.Folds.{list_any_more}
use Rattle.std.specs.BTreeMap.{is_at, get_by}
use Rattle.std.specs.BTreeSet.{BTreeSet, contains}
use Rattle.std.specs.Borrow.{Bor}
use Rattle.std.specs.Cmp.Lexicographic.{same_text}
use Rattle.std.specs.List.{list_any}
use Rattle.odd_content.specs.Picking.{is_picked}
use Rattle.odd_content.specs.declared.content.Pick.{Pick}
use Rattle.odd_text.specs.Same.{is_among}
use Rattle.odd_library.specs.Library.{module_of}
use Rattle.odd_library.specs.declared.library.Component.{Component}
use Rattle.odd_text.specs.Key.{key_cmp}
use Rattle.odd_text.specs.Text.{text_cmp}
use Rattle.odd_text.specs.declared.key.Key.{Key}
use Rattle.odd_text.specs.declared.key.Kind.{Kind}
use Rattle.odd_text.specs.declared.key.Kind.TheVariants as kind
use Rattle.odd_text.specs.Same.{is_same}
use Rattle.odd_tree.proofs.LastBound.{is_at_text}
use Rattle.odd_modes.specs.Choosing.{is_taken}
use Rattle.odd_modes.specs.Index.{is_listed, is_taken_of, names}
use Rattle.odd_modes.specs.declared.named.Named.{Named}
use Rattle.odd_modes.specs.declared.named.Named.TheVariants as named
use Rattle.odd_modes.specs.declared.references.References.{References}

-- a word ties with a text where they are the same
tied : (word text : List ℕ) → is_at (text_cmp word) text ≡ is_same text word
tied word text = is_at_text word text ∙ nat_list_eq_equiv.symm word text

-- and then they are one text
one_tied : (word text : List ℕ) → is_at (text_cmp word) text ≡ true → word ≡ text
one_tied word text t = same_text word text (sym (sym (is_at_text word text) ∙ t))

-- a text is among the words with one more where it was before or ties with that one
among_more : (words : List (List ℕ)) (i : ℕ) (word text : List ℕ) → i < length words → word ≡ get_or words i word
    → is_among (take (i + 1) words) text ≡ (is_among (take i words) text || is_at (text_cmp word) text)
among_more words i word text within is =
    list_any_more (is_same text) words i word within ∙ ap (λ w. is_among (take i words) text || is_same text w) (sym is)
    ∙ ap (λ b. is_among (take i words) text || b) (sym (tied word text))

put_after : (had among ties : Bool) → cond ties true (had || among) ≡ (had || (among || ties))
put_after true among true = refl
put_after true among false = refl
put_after false true true = refl
put_after false true false = refl
put_after false false true = refl
put_after false false false = refl

out_after : (had among ties : Bool) → cond ties false (had && not among) ≡ (had && not (among || ties))
out_after true true true = refl
out_after true true false = refl
out_after true false true = refl
out_after true false false = refl
out_after false among true = refl
out_after false among false = refl

passed_after : (among passes ties : Bool) → (ties ≡ true → passes ≡ true) → cond ties true (among && passes) ≡ ((among || ties) && passes)
passed_after true passes true h = sym (h refl)
passed_after false passes true h = sym (h refl)
passed_after true passes false h = refl
passed_after false passes false h = refl

failed_after : (among passes ties : Bool) → (ties ≡ true → passes ≡ false) → (among && passes) ≡ ((among || ties) && passes)
failed_after true passes ties h = refl
failed_after false passes true h = sym (h refl)
failed_after false passes false h = refl

-- a test of the texts that are in a set, or of those that are not
pub told_test : (held wanted : Bool) (answer : Bool) → beq held wanted ≡ answer → cond wanted held (not held) ≡ answer
told_test true true answer e = e
told_test true false answer e = e
told_test false true answer e = e
told_test false false answer e = e

-- what a set has with one word more, which is put into it or taken out
module _ (words : List (List ℕ)) (i : ℕ) (word text : List ℕ) (within : i < length words) (is : word ≡ get_or words i word) where
  -- whether the word ties with the text
  abbrev ties : Bool
  ties = is_at (text_cmp word) text

  pub word_put : (had old new : Bool) → new ≡ cond ties true old → old ≡ (had || is_among (take i words) text) → new ≡ (had || is_among (take (i + 1) words) text)
  word_put had old new put was =
      put ∙ ap (cond ties true) was ∙ put_after had (is_among (take i words) text) ties ∙ ap (λ b. had || b) (sym (among_more words i word text within is))

  pub word_out : (had old new : Bool) → new ≡ cond ties false old → old ≡ (had && not (is_among (take i words) text)) → new ≡ (had && not (is_among (take (i + 1) words) text))
  word_out had old new out was =
      out ∙ ap (cond ties false) was ∙ out_after had (is_among (take i words) text) ties ∙ ap (λ b. had && not b) (sym (among_more words i word text within is))

  -- of the words those are put that pass a test
  pub word_passed : (test : List ℕ → Bool) (old new : Bool) → test word ≡ true → new ≡ cond ties true old → old ≡ (is_among (take i words) text && test text)
      → new ≡ (is_among (take (i + 1) words) text && test text)
  word_passed test old new passes put was =
      put ∙ ap (cond ties true) was
      ∙ passed_after (is_among (take i words) text) (test text) ties (λ t. ap test (sym (one_tied word text t)) ∙ passes)
      ∙ ap (λ b. b && test text) (sym (among_more words i word text within is))

  pub word_failed : (test : List ℕ → Bool) (old : Bool) → test word ≡ false → old ≡ (is_among (take i words) text && test text) → old ≡ (is_among (take (i + 1) words) text && test text)
  word_failed test old fails was =
      was ∙ failed_after (is_among (take i words) text) (test text) ties (λ t. ap test (sym (one_tied word text t)) ∙ fails)
      ∙ ap (λ b. b && test text) (sym (among_more words i word text within is))

-- a set of the texts of items, with the text of one item more
pub text_put : {A : Type 0} (text_of : A → List ℕ) (items : List A) (i : ℕ) (x : A) (text : List ℕ) (old new : Bool) → i < length items → x ≡ get_or items i x
    → new ≡ cond (is_at (text_cmp (text_of x)) text) true old → old ≡ list_any (λ y. is_same (text_of y) text) (take i items) → new ≡ list_any (λ y. is_same (text_of y) text) (take (i + 1) items)
text_put text_of items i x text old new within is put was =
    put ∙ ap (λ b. cond b true old) (is_at_text (text_of x) text) ∙ joined (is_same (text_of x) text) old
    ∙ ap (λ b. b || is_same (text_of x) text) was
    ∙ ap (λ y. list_any (λ z. is_same (text_of z) text) (take i items) || is_same (text_of y) text) is
    ∙ sym (list_any_more (λ y. is_same (text_of y) text) items i x within)
  where
    joined : (b held : Bool) → cond b true held ≡ (held || b)
    joined true true = refl
    joined true false = refl
    joined false true = refl
    joined false false = refl

-- which elements are named of a module
abbrev pub named_of : References → List ℕ → Option Named
named_of refs name = get_by (λ k. text_cmp name k.now) refs.modules

-- of a module that nothing referred to no element was named
pub named_before : (old : Option Named) (none : BTreeSet (Bor (List ℕ))) → none.keys ≡ [] → (ident : List ℕ) → names (unwrap_or old (named.Only none)) ident ≡ is_taken_of old kind.Element ident
named_before None none empty ident = ap (list_any (is_at (λ (k : Bor (List ℕ)). text_cmp ident k.now))) empty
named_before (Some n) none empty ident = refl

-- what is taken of a module with one reference to it more
taken_more : (old : Option Named) (before more : Named) (p : Pick) → ((ident : List ℕ) → names before ident ≡ is_taken_of old kind.Element ident)
    → ((ident : List ℕ) → names more ident ≡ (names before ident || is_picked p ident)) → (of_kind : Kind) (ident : List ℕ)
    → is_taken_of (Some more) of_kind ident ≡ (is_taken_of old of_kind ident || is_taken p of_kind ident)
taken_more old before more p was joins kind.Element ident = joins ident ∙ ap (λ b. b || is_picked p ident) (was ident)
taken_more None before more p was joins of_kind ident = refl
taken_more (Some n) before more p was joins of_kind ident = refl

-- the module's names are put in place of those that were taken out
pub put_again : (b : Bool) (more : Named) (old : Option Named) → cond b (Some more) (cond b None old) ≡ cond b (Some more) old
put_again true more old = refl
put_again false more old = refl

-- what is referred to with one reference to a module more
pub listed_more : (old new : References) (name : List ℕ) (before more : Named) (p : Pick) → new.keys ≡ old.keys
    → ((other : List ℕ) → named_of new other ≡ cond (is_at (text_cmp name) other) (Some more) (named_of old other))
    → ((ident : List ℕ) → names before ident ≡ is_taken_of (named_of old name) kind.Element ident)
    → ((ident : List ℕ) → names more ident ≡ (names before ident || is_picked p ident)) → (key : Key) (part : Component)
    → is_listed new key part ≡ (is_listed old key part || (is_same name (module_of part) && is_taken p key.kind key.ident))
listed_more old new name before more p keys put was joins key part =
    ap (λ (ks : BTreeSet Key). contains key_cmp ks key || is_taken_of (named_of new (module_of part)) key.kind key.ident) keys
    ∙ ap (λ b. contains key_cmp old.keys key || b) (ap (λ o. is_taken_of o key.kind key.ident) (put (module_of part) ∙ ap (λ b. cond b (Some more) (named_of old (module_of part))) (is_at_text name (module_of part))) ∙ by_name (is_same name (module_of part)) refl)
    ∙ sym (or_assoc (contains key_cmp old.keys key) (is_taken_of (named_of old (module_of part)) key.kind key.ident) (is_same name (module_of part) && is_taken p key.kind key.ident))
  where
    or_false : (b : Bool) → b ≡ (b || false)
    or_false true = refl
    or_false false = refl

    by_name : (b : Bool) → is_same name (module_of part) ≡ b
        → is_taken_of (cond b (Some more) (named_of old (module_of part))) key.kind key.ident
        ≡ (is_taken_of (named_of old (module_of part)) key.kind key.ident || (b && is_taken p key.kind key.ident))
    by_name true e =
        taken_more (named_of old (module_of part)) before more p (λ ident. was ident ∙ ap (λ n. is_taken_of (named_of old n) kind.Element ident) (same_text name (module_of part) (sym e))) joins key.kind key.ident
    by_name false e = or_false (is_taken_of (named_of old (module_of part)) key.kind key.ident)
