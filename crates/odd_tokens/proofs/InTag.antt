-- One more character of a value; what the lexer reads in a tag is a tag, and in a declaration a declaration.
use Rattle.std.proofs.Common.{◌≡◌, ℕ, Bool, true, false, ◌&&◌, ◌||◌, ◌==◌, if◌then◌else◌, List, [], ◌∷◌, ◌++◌, sym, refl, ap, ◌∙◌, append_assoc, subst, codes, ◌≢◌}
use Rattle.std.proofs.lemmas.Bool.{or_parts, and_parts, eqb-true, eqb-false}
use Rattle.std.proofs.lemmas.List.Elements.{All-nil}
use Rattle.std.specs.Prelude.{encode_utf8, Some, None}
use Rattle.odd_tokens.proofs.InReference.{reference_begins, ReferenceStep, goes, ends, stops, reference_steps, reference_kept}
use Rattle.odd_tokens.proofs.InTagNames.{name_begun}
use Rattle.odd_tokens.proofs.InTagParts.{feed_comes, space_comes, other_comes, reference_comes, attribute_ends, after_more, quoted_more, apart_one, after_front}
use Rattle.odd_tokens.proofs.InTagStates.{IsAfter, IsQuoted, IsValued, IsReferring, IsKept, Goes, ArePlain, IsApart, InState, TagEnded}
use Rattle.odd_tokens.proofs.InTagStates as states
use Rattle.odd_tokens.proofs.InTagSteps.{goes_both, with_one, named_goes, value_end_goes, tag_space_goes, before_equals_goes, before_quote_goes, slash_goes, question_goes}
use Rattle.odd_tokens.proofs.LexedSteps.{IsIdle}
use Rattle.odd_tokens.specs.Characters.{is_char, is_space, is_name_start}
use Rattle.odd_tokens.specs.Lexing.{Lexed, Taken, go, value, end_attribute, reference, next, fresh_tag}
use Rattle.odd_tokens.specs.Tokens.{itself, IsPieceIn, character_of, Attribute, IsAttribute}
use Rattle.odd_tokens.specs.declared.lexer.NamePart.TheVariants as part
use Rattle.odd_tokens.specs.declared.lexer.Named.TheVariants as named
use Rattle.odd_tokens.specs.declared.lexer.Place.TheVariants as place
use Rattle.odd_tokens.specs.declared.lexer.ReferencePart.{ReferencePart}
use Rattle.odd_tokens.specs.declared.lexer.ReferencePart.TheVariants as ref
use Rattle.odd_tokens.specs.declared.lexer.State.{State}
use Rattle.odd_tokens.specs.declared.lexer.State.TheVariants as state
use Rattle.odd_tokens.specs.declared.token.Token.{Token}

abbrev InValue : Bool → ℕ → List ℕ → ℕ → Bool → Lexed → Type 0
InValue declares at read quote last l = IsAfter declares at read l.tag (IsQuoted quote l.name (IsValued declares quote last l.value))

-- one more character of a text in quotes
in_quotes : (declares : Bool) (at c quote : ℕ) (read : List ℕ) (l : Lexed) (P Q : List ℕ → Type 0) → ((text : List ℕ) → P text → Q (text ++ c ∷ []))
    → IsAfter declares at read l.tag (IsQuoted quote l.name P) → IsAfter declares at (read ++ c ∷ []) l.tag (IsQuoted quote l.name Q)
in_quotes declares at c quote read l P Q f a = after_more declares at c read l.tag (IsQuoted quote l.name P) (IsQuoted quote l.name Q) (quoted_more c quote l.name P Q f) a

no_declaration : (b d : Bool) → b ≡ true → (b && d) ≡ false → d ≡ false
no_declaration true d e h = h
no_declaration false d e h = cc

-- the ampersand begins a reference
refers : (declares : Bool) (quote : ℕ) (last : Bool) (l : Lexed) → declares ≡ false → (text : List ℕ) → IsValued declares quote last l.value text
    → IsReferring declares quote ref.Begins (record l { state = state.Reference (place.Value quote) ref.Begins }) (text ++ codes "&")
refers declares quote last l e text v = record {
  before = text;
  name = codes "&";
  last = last;
  no_declaration = e;
  is_before = v;
  is_reference = reference_begins (record l { state = state.Reference (place.Value quote) ref.Begins });
  is_read = refl;
}

pub value_goes : (declares : Bool) (at c : ℕ) (read : List ℕ) (quote : ℕ) (last : Bool) (l : Lexed) → is_char c ≡ true → IsKept declares at l
    → InValue declares at read quote last l
    → Goes declares at (read ++ c ∷ []) (value quote last l c)
value_goes declares at c read quote last l legal k a =
    both (c == quote) _ _
    (λ h. with_one declares at read c quote (end_attribute l) h (
      record { opened = k.opened; begins = k.begins; declared = k.declared },
      attribute_ends declares at quote last l.name l.value read l.tag a,
    ))
    (λ other. both (c == 0x3C || (c == 0x26 && l.declares)) _ _ (λ _. tt) (λ none.
    let p = or_parts (c == 0x3C) (c == 0x26 && l.declares) none in
    both (c == 0x26) _ _
    (λ h. with_one declares at read c 0x26 (go (state.Reference (place.Value quote) ref.Begins) l) h (
      kept (state.Reference (place.Value quote) ref.Begins) l.value,
      in_quotes declares at 0x26 quote read l (IsValued declares quote last l.value) _ (refers declares quote last l (sym k.declared ∙ no_declaration (c == 0x26) l.declares h p.1)) a,
    ))
    (λ amp. let piece : IsPieceIn quote (itself c) = (legal, eqb-false c 0x3C p.0, eqb-false c 0x26 amp, eqb-false c quote other) in
    both (c == 0xA && last) _ _
    (λ h. let q = and_parts (c == 0xA) last h in (
      kept (state.Value quote false) l.value,
      in_quotes declares at c quote read l (IsValued declares quote last l.value) _ (λ text v. feed_comes declares quote c last l.value text piece (eqb-true c 0xA q.0) q.1 v) a,
    ))
    (λ feed. both (is_space c) _ _
    (λ h. (
      kept (state.Value quote (c == 0xD)) (l.value ++ 0x20 ∷ []),
      in_quotes declares at c quote read l (IsValued declares quote last l.value) _ (λ text v. space_comes declares quote c last l.value text piece h (turned (c == 0xA) last feed) v) a,
    ))
    (λ h. (
      kept (state.Value quote false) (l.value ++ encode_utf8 c),
      in_quotes declares at c quote read l (IsValued declares quote last l.value) _ (λ text v. other_comes declares quote c last l.value text piece h v) a,
    ))))))
  where
    both : (b : Bool) (x y : Taken) → (b ≡ true → Goes declares at (read ++ c ∷ []) x) → (b ≡ false → Goes declares at (read ++ c ∷ []) y)
        → Goes declares at (read ++ c ∷ []) (if b then x else y)
    both = goes_both declares at (read ++ c ∷ [])

    kept : (s : State) (v : List ℕ) → IsKept declares at (record l { state = s; value = v })
    kept s v = record { opened = k.opened; begins = k.begins; declared = k.declared }

    turned : (x y : Bool) → (x && y) ≡ false → (y && x) ≡ false
    turned true true h = h
    turned true false h = refl
    turned false true h = refl
    turned false false h = refl

-- a reference goes on, or gives its character to the value
pub reference_goes : (declares : Bool) (at c : ℕ) (read : List ℕ) (quote : ℕ) (p : ReferencePart) (l : Lexed) → is_char c ≡ true → IsKept declares at l
    → IsAfter declares at read l.tag (IsQuoted quote l.name (IsReferring declares quote p l)) → Goes declares at (read ++ c ∷ []) (reference (place.Value quote) p l c)
reference_goes declares at c read quote p l legal k a =
    by_step (reference (place.Value quote) p l c) (reference_steps (place.Value quote) p a.is_part.is_text.name l c legal a.is_part.is_text.is_reference)
  where
    i : IsReferring declares quote p l a.is_part.text
    i = a.is_part.is_text

    longer : i.before ++ (i.name ++ c ∷ []) ≡ a.is_part.text ++ c ∷ []
    longer = sym (ap (λ z. z ++ c ∷ []) i.is_read ∙ append_assoc i.before i.name (c ∷ []))

    -- one more character of the text in quotes
    more : (Q : List ℕ → Type 0) → Q (i.before ++ (i.name ++ c ∷ [])) → IsAfter declares at (read ++ c ∷ []) l.tag (IsQuoted quote l.name Q)
    more Q q = record {
      front = a.front;
      part = a.part ++ c ∷ [];
      is_front = a.is_front;
      is_part = record {
        before = a.is_part.before;
        text = a.is_part.text ++ c ∷ [];
        is_before = a.is_part.is_before;
        quoted = a.is_part.quoted;
        is_text = subst Q longer q;
        is_read = ap (λ z. z ++ c ∷ []) a.is_part.is_read ∙ append_assoc a.is_part.before (quote ∷ a.is_part.text) (c ∷ []);
      };
      is_read = ap (λ z. z ++ c ∷ []) a.is_read ∙ append_assoc a.front a.part (c ∷ []);
    }

    by_step : (taken : Taken) → ReferenceStep (place.Value quote) (i.name ++ c ∷ []) l taken → Goes declares at (read ++ c ∷ []) taken
    by_step taken (goes after text number e r) = rw e (
      record { opened = k.opened; begins = k.begins; declared = k.declared },
      more (IsReferring declares quote after (record l { state = state.Reference (place.Value quote) after; text = text; number = number })) (record {
        before = i.before;
        name = i.name ++ c ∷ [];
        last = i.last;
        no_declaration = i.no_declaration;
        is_before = i.is_before;
        is_reference =
            reference_kept after (i.name ++ c ∷ []) (record l { text = text; number = number })
            (record l { state = state.Reference (place.Value quote) after; text = text; number = number }) refl refl r;
        is_read = refl;
      }),
    )
    by_step taken (ends r h w e) = rw e (
      record { opened = k.opened; begins = k.begins; declared = k.declared },
      more (IsValued declares quote false (l.value ++ encode_utf8 (character_of r)))
          (reference_comes declares quote i.last l.value i.before (i.name ++ c ∷ []) r i.no_declaration h w i.is_before),
    )
    by_step taken (stops e) = rw e tt

-- these characters of a tag that begins at the byte were read, and it is not finished
abbrev pub InTag : (declares : Bool) → (at : ℕ) → (read : List ℕ) → Lexed → Type 0
InTag declares at read l = states.InTag declares at read l

pub tag_begins : (l : Lexed) (at c : ℕ) → is_name_start c ≡ true → l.declares ≡ false → l.begin ≡ at
    → InTag false at (0x3C ∷ c ∷ [])
    (record l { state = state.Name named.Element part.First; opening = false; tag = fresh_tag l.begin; name = record { prefix = []; local = encode_utf8 c } })
tag_begins l at c h d b = (
  record { opened = refl; begins = b; declared = d },
  record { text = c ∷ []; no_declaration = refl; placed = b; no_attributes = refl; is_named = name_begun c (record { prefix = []; local = encode_utf8 c }) h refl refl; is_read = refl },
)

pub declaration_begins : (l : Lexed) (at c : ℕ) → is_space c ≡ true → l.begin ≡ at
    → InTag true at (codes "<?xml" ++ c ∷ []) (record l { state = state.TagSpace; opening = false; declares = true; tag = fresh_tag l.begin })
declaration_begins l at c h b = (
  record { opened = refl; begins = b; declared = refl },
  after_front true at (codes "<?xml") (c ∷ []) (fresh_tag l.begin) IsApart
      (record {
        name = record { prefix = []; local = [] };
        attributes = [];
        is_head = tt;
        attributed = All-nil IsAttribute;
        are_plain = All-nil (λ (a : Attribute). ArePlain true a.value);
        is_read = refl;
        placed = b;
        is_made = refl;
      })
      (apart_one c h),
)

-- only a legal character goes on
legal : (declares : Bool) (at c : ℕ) (read : List ℕ) (x : Taken) → (is_char c ≡ true → Goes declares at read x) → Goes declares at read (if is_char c then x else None)
legal declares at c read x f = goes_both declares at read (is_char c) x None f (λ _. tt)

abbrev with_state : State → Lexed → Lexed
with_state s l = record l { state = s }

in_state : (s : State) (declares : Bool) (at here c : ℕ) (read : List ℕ) (l : Lexed) → IsKept declares at (with_state s l) → InState s declares at read (with_state s l)
    → Goes declares at (read ++ c ∷ []) (next (with_state s l) here c)
in_state (state.Name named.EndTag p) declares at here c read l k i = absurd i
in_state (state.Name n p) declares at here c read l k i =
    legal declares at c (read ++ c ∷ []) _ (λ _. named_goes n p declares at c read (with_state (state.Name n p) l) k refl i)
in_state state.TagSpace declares at here c read l k i = legal declares at c (read ++ c ∷ []) _ (λ _. tag_space_goes declares at c read (with_state state.TagSpace l) k i)
in_state state.BeforeEquals declares at here c read l k i = legal declares at c (read ++ c ∷ []) _ (λ _. before_equals_goes declares at c read (with_state state.BeforeEquals l) k i)
in_state state.BeforeQuote declares at here c read l k i = legal declares at c (read ++ c ∷ []) _ (λ _. before_quote_goes declares at c read (with_state state.BeforeQuote l) k i)
in_state (state.Value quote last) declares at here c read l k i =
    legal declares at c (read ++ c ∷ []) _ (λ h. value_goes declares at c read quote last (with_state (state.Value quote last) l) h k i)
in_state (state.Reference (place.Value quote) p) declares at here c read l k i =
    legal declares at c (read ++ c ∷ []) _ (λ h. reference_goes declares at c read quote p (with_state (state.Reference (place.Value quote) p) l) h k i)
in_state state.ValueEnd declares at here c read l k i = legal declares at c (read ++ c ∷ []) _ (λ _. value_end_goes declares at c read (with_state state.ValueEnd l) k i)
in_state state.Slash declares at here c read l k i = legal declares at c (read ++ c ∷ []) _ (λ _. slash_goes declares at c read (with_state state.Slash l) k i.0 i.1)
in_state state.Question declares at here c read l k i = legal declares at c (read ++ c ∷ []) _ (λ _. question_goes declares at c read (with_state state.Question l) k i.0 i.1)
in_state s declares at here c read l k i = absurd i

next_goes : (declares : Bool) (at here c : ℕ) (read : List ℕ) (l : Lexed) → InTag declares at read l → Goes declares at (read ++ c ∷ []) (next l here c)
next_goes declares at here c read l t = in_state l.state declares at here c read l t.0 t.1

pub in_tag_goes_on : (declares : Bool) (at here c : ℕ) (read : List ℕ) (l m : Lexed) → InTag declares at read l → next l here c ≡ Some (m, None)
    → InTag declares at (read ++ c ∷ []) m
in_tag_goes_on declares at here c read l m t e = rw e at (next_goes declares at here c read l t)

pub in_tag_ends : (declares : Bool) (at here c : ℕ) (read : List ℕ) (l m : Lexed) (made : Token) → InTag declares at read l → next l here c ≡ Some (m, Some made)
    → IsIdle m × (m.opening ≡ false) × TagEnded declares at (read ++ c ∷ []) made
in_tag_ends declares at here c read l m made t e = rw e at (next_goes declares at here c read l t)

pub in_tag_unfinished : (declares : Bool) (at : ℕ) (read : List ℕ) (l : Lexed) → InTag declares at read l → (l.state ≢ state.Between) × (l.begin ≡ at)
in_tag_unfinished declares at read l t = (λ e. rw e at t.1, t.0.begins)
