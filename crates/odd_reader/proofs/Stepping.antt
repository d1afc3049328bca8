-- What stands first in the text, taken at once: a run of plain characters, and a whole token, where an element is open and no token is unfinished.
use Rattle.std.proofs.Common.{◌≡◌, ◌≢◌, inl, ℕ, ◌+◌, ◌<◌, Bool, true, false, ◌&&◌, ◌==◌, List, [], ◌∷◌, ◌++◌, length, length-append, map, Option, None, Some, Ok, Err, refl, sym, ap, ◌∙◌, subst, subst₂, append_assoc, append-nil, arith}
use Rattle.std.proofs.lemmas.Bool.{and_parts}
use Rattle.std.specs.List.{list_all}
use Rattle.std.specs.Prelude.{encode_utf8}
use Rattle.std.specs.Str.{encode_utf8_all}
use Rattle.odd_tokens.specs.Lexing.{Lexed, lexed as lexed_of}
use Rattle.odd_tokens.specs.Making.{token_made}
use Rattle.odd_tokens.specs.Openings.{Declaration, opening_written}
use Rattle.odd_tokens.specs.Tokens.{Token, character, end_tag, token_written, tokens_written, size_of}
use Rattle.odd_tokens.specs.Unfinished.{HasRead as IsLexedTo, IsMark}
use Rattle.odd_tokens.specs.Whole.{IsLexed, IsRead, IsWhole}
use Rattle.odd_tokens.specs.declared.token.Token.TheVariants as made
use Rattle.odd_tokens.proofs.Characters.{not_empty}
use Rattle.odd_tokens.proofs.Unfinished.{one_made, whole_some}
use Rattle.odd_tree.specs.Spelled.{DepthPlace, IsNotXml}
use Rattle.odd_tree.specs.declared.tree.Tree.{Tree}
use Rattle.odd_tree.proofs.Fits.{size_of_append, written-append}
use Rattle.odd_reader.specs.Building.{Kept, build, kept_of}
use Rattle.odd_reader.specs.Reading.{HasBuilt, nothing, more, is_fresh, HasRead, HasTaken, place_of}
use Rattle.odd_reader.specs.Stepping.{Advances, EndsFirst, IsInside, IsPlain, Refuses, ended, is_plain, some_open, takes_plain, with_plain}
use Rattle.odd_reader.specs.declared.builder.Last.{Last}
use Rattle.odd_reader.specs.declared.builder.Last.TheVariants as last
use Rattle.odd_reader.specs.declared.element.OpenElement.{OpenElement}
use Rattle.odd_reader.specs.declared.misfit.Misfit.TheVariants as misfit
use Rattle.odd_reader.specs.declared.reader.Reader.{Reader}
use Rattle.odd_reader.proofs.EndTags.{end_first}
use Rattle.odd_reader.proofs.LongestFront.{some_length}
use Rattle.odd_reader.proofs.PlainText.{plain_is_char, not_less, not_ampersand, no_return, no_bracket}
use Rattle.odd_reader.proofs.StandsTaken.{kept, ok}
use Rattle.odd_reader.proofs.Places.{parts_of}
use Rattle.odd_reader.proofs.Taken.{misplaced_place, none_in_nothing, not_fresh, place_between, too_deep_place}

-- one plain character

and_no : (b : Bool) → (b && false) ≡ false
and_no true = refl
and_no false = refl

plain_built : (os : List OpenElement) (root : Option Tree) (text : List ℕ) (l : Last) (c : ℕ) → takes_plain (kept os root text l) ≡ true → is_plain c ≡ true
    → build (kept os root text l) (made.Character c) ≡ Ok (kept os root (text ++ encode_utf8 c) l)
plain_built [] root text l c t h = cc
plain_built (o ∷ os) root text last.Other c t h = rw (and_no (c == 0x3E), no_return c h, and_no (c == 0xA), no_bracket c h) refl
plain_built (o ∷ os) root text last.Return c t h = cc
plain_built (o ∷ os) root text last.Bracket c t h = cc
plain_built (o ∷ os) root text last.Brackets c t h = cc

-- a run of them

pub run_built : (start : ℕ) (ts : List Token) (os : List OpenElement) (root : Option Tree) (text : List ℕ) (l : Last) (cs : List ℕ) → HasBuilt start ts (kept os root text l)
    → takes_plain (kept os root text l) ≡ true → list_all is_plain cs ≡ true → HasBuilt start (ts ++ map character cs) (kept os root (text ++ encode_utf8_all cs) l)
run_built start ts os root text l [] b t h = subst₂ (HasBuilt start) (sym (append-nil ts)) (ap (λ x. kept os root x l) (sym (append-nil text))) b
run_built start ts os root text l (c ∷ cs) b t h =
    let p = and_parts (is_plain c) (list_all is_plain cs) h in
    let one : HasBuilt start (ts ++ character c ∷ []) (kept os root (text ++ encode_utf8 c) l) =
    more (character c) b (plain_is_char c p.0, not_less c p.0, not_ampersand c p.0) (plain_built os root text l c t p.0) refl in
    subst₂ (HasBuilt start) (append_assoc ts (character c ∷ []) (map character cs)) (ap (λ x. kept os root x l) (append_assoc text (encode_utf8 c) (encode_utf8_all cs)))
    (run_built start (ts ++ character c ∷ []) os root (text ++ encode_utf8 c) l cs one t p.1)

run_written : (cs : List ℕ) → tokens_written (map character cs) ≡ cs
run_written [] = refl
run_written (c ∷ cs) = ap (λ x. c ∷ x) (run_written cs)

-- where an element is open, some token was read

not_fresh_in : (start : ℕ) (d : Option Declaration) (ts : List Token) (k : Kept) → HasBuilt start ts k → some_open k.open_elements ≡ true → is_fresh d ts ≡ false
not_fresh_in start d ts k nothing o = cc
not_fresh_in start d us m (more {ts = ts} t b lexed built p) o = ap (is_fresh d) p ∙ not_fresh d ts t

fresh_more : (d : Option Declaration) (ts us : List Token) → is_fresh d ts ≡ false → is_fresh d (ts ++ us) ≡ false
fresh_more None [] us e = cc
fresh_more None (t ∷ ts) us e = refl
fresh_more (Some d) ts us e = refl

-- between two tokens a lexer stands wherever they end
anywhere : (l : Lexed) (fresh : Bool) (at here : ℕ) → IsLexedTo l fresh at [] → IsLexedTo l fresh here []
anywhere l fresh at here h = record { before = h.before; idle = h.idle; opened = h.opened; goes = h.goes }

some_last : (cs : List ℕ) → cs ≢ [] → (front : List ℕ) × (c : ℕ) × (cs ≡ front ++ c ∷ [])
some_last [] n = absurd (n refl)
some_last (c ∷ []) n = ([], c, refl)
some_last (c ∷ (d ∷ ds)) n =
    let rest : (front : List ℕ) × (e : ℕ) × (d ∷ ds ≡ front ++ e ∷ []) = some_last (d ∷ ds) (λ e. cc e) in
    (c ∷ rest.0, rest.1, ap (λ xs. c ∷ xs) rest.2)

no_truth : (b : Bool) → b ≡ false → b ≡ true → ⊥
no_truth b e f = cc

module _ {l : Lexed} {k : Kept} {cs : List ℕ} (h : HasTaken (IsLexedTo l) k cs) (e : h.unfinished ≡ []) (o : some_open k.open_elements ≡ true) where
  abbrev fresh : Bool
  fresh = is_fresh h.opening.declaration h.tokens

  abbrev start : ℕ
  start = size_of (opening_written h.opening)

  abbrev here : List ℕ
  here = opening_written h.opening ++ tokens_written h.tokens

  is_old : fresh ≡ false
  is_old = not_fresh_in start h.opening.declaration h.tokens k h.built o

  all_read : cs ≡ here
  all_read = h.parts ∙ ap (λ xs. here ++ xs) e ∙ append-nil here

  -- the builder took more tokens
  pub tokens_taken : (ts : List Token) (m : Kept) → HasBuilt start (h.tokens ++ ts) m → HasTaken (IsLexedTo l) m (cs ++ tokens_written ts)
  tokens_taken ts m b = record {
    opening = h.opening;
    is_opening = h.is_opening;
    tokens = h.tokens ++ ts;
    built = b;
    unfinished = [];
    parts = ap (λ xs. xs ++ tokens_written ts) all_read
        ∙ append_assoc (opening_written h.opening) (tokens_written h.tokens) (tokens_written ts)
        ∙ ap (λ xs. opening_written h.opening ++ xs) (sym (written-append h.tokens ts))
        ∙ sym (append-nil (opening_written h.opening ++ tokens_written (h.tokens ++ ts)));
    read = subst (λ f. IsLexedTo l f (size_of (opening_written h.opening ++ tokens_written (h.tokens ++ ts))) [])
        (is_old ∙ sym (fresh_more h.opening.declaration h.tokens ts is_old)) (anywhere l _ _ _ (subst (IsLexedTo l _ _) e h.read));
    none_whole = λ front left u w v. none_in_nothing _ _ front left u w v;
  }

  -- a run of plain characters
  pub run_taken : (run : List ℕ) → takes_plain k ≡ true → list_all is_plain run ≡ true → HasTaken (IsLexedTo l) (kept k.open_elements k.root (k.text ++ encode_utf8_all run) k.last) (cs ++ run)
  run_taken run t p =
      subst (λ xs. HasTaken (IsLexedTo l) (kept k.open_elements k.root (k.text ++ encode_utf8_all run) k.last) (cs ++ xs)) (run_written run)
      (tokens_taken (map character run) _ (run_built start h.tokens k.open_elements k.root k.text k.last run h.built t p))

  placed : start + size_of (tokens_written h.tokens) ≡ size_of cs
  placed = sym (size_of_append (opening_written h.opening) (tokens_written h.tokens)) ∙ place_between h e

  module _ (t : Token) (lexed : IsLexed t) where
    -- a token that fits
    pub whole_taken : (m : Kept) → build k (token_made (size_of cs) t) ≡ Ok m → HasTaken (IsLexedTo l) m (cs ++ token_written t)
    whole_taken m b =
        subst (λ xs. HasTaken (IsLexedTo l) m (cs ++ xs)) (append-nil (token_written t))
        (tokens_taken (t ∷ []) m (more t h.built lexed (ap (λ n. build k (token_made n t)) placed ∙ b) refl))

    -- a token that does not fit

    is_read : IsRead (place_of h) (token_written t) (token_made (place_of h) t)
    is_read = record { token = t; is_lexed = lexed; is_written = refl; is_made = refl }

    unmarked : (xs : List ℕ) → IsMark fresh (place_of h) xs → ⊥
    unmarked xs m = no_truth fresh is_old m.0

    parts : (front : List ℕ) × (c : ℕ) × (token_written t ≡ front ++ c ∷ [])
    parts = some_last (token_written t) (λ n. whole_some fresh (place_of h) (token_made (place_of h) t) (subst (λ xs. IsWhole fresh (place_of h) xs (token_made (place_of h) t)) n (inl is_read)))

    whole : IsWhole fresh (place_of h) (parts.0 ++ parts.1 ∷ []) (token_made (place_of h) t)
    whole = subst (λ xs. IsWhole fresh (place_of h) xs (token_made (place_of h) t)) parts.2 (inl is_read)

    -- all but its last character
    abbrev before_last : HasTaken (λ _ _ _. Unit {0}) k (cs ++ parts.0)
    before_last = record {
      opening = h.opening;
      is_opening = h.is_opening;
      tokens = h.tokens;
      built = h.built;
      unfinished = parts.0;
      parts = ap (λ xs. xs ++ parts.0) all_read;
      read = tt;
      none_whole = λ front left u w v.
          let all : parts.0 ++ parts.1 ∷ [] ≡ front ++ (left ++ parts.1 ∷ []) = ap (λ xs. xs ++ parts.1 ∷ []) w ∙ append_assoc front left (parts.1 ∷ []) in
          not_empty left parts.1 (one_made fresh (place_of h) front (left ++ parts.1 ∷ []) u (token_made (place_of h) t) (unmarked front) v
          (subst (λ xs. IsWhole fresh (place_of h) xs (token_made (place_of h) t)) all whole)).0;
    }

    at_place : place_of h ≡ size_of cs
    at_place = place_between h e

    joined : (others : List ℕ) → encode_utf8_all ((cs ++ parts.0) ++ parts.1 ∷ []) ++ others ≡ encode_utf8_all cs ++ (encode_utf8_all (token_written t) ++ others)
    joined others =
        ap (λ xs. encode_utf8_all xs ++ others) (append_assoc cs parts.0 (parts.1 ∷ []) ∙ ap (λ xs. cs ++ xs) (sym parts.2))
        ∙ parts_of cs (token_written t) others

    pub whole_misplaced : (others : List ℕ) → build k (token_made (size_of cs) t) ≡ Err misfit.Misplaced
        → IsNotXml (encode_utf8_all cs ++ (encode_utf8_all (token_written t) ++ others)) (size_of cs)
    whole_misplaced others b =
        subst₂ IsNotXml (joined others) at_place
        (misplaced_place before_last parts.1 others (token_made (place_of h) t) whole (unmarked _) (ap (λ n. build k (token_made n t)) at_place ∙ b))

    pub whole_too_deep : (others : List ℕ) → build k (token_made (size_of cs) t) ≡ Err misfit.TooDeep
        → DepthPlace (encode_utf8_all cs ++ (encode_utf8_all (token_written t) ++ others)) (size_of cs)
    whole_too_deep others b =
        subst₂ DepthPlace (joined others) at_place
        (too_deep_place before_last parts.1 others (token_made (place_of h) t) whole (unmarked _) (ap (λ n. build k (token_made n t)) at_place ∙ b))

-- what the reader takes at once

lexed_as : {l m : Lexed} {k : Kept} {cs : List ℕ} → m ≡ l → HasTaken (IsLexedTo l) k cs → HasTaken (IsLexedTo m) k cs
lexed_as {k = k} {cs = cs} e h = subst (λ x. HasTaken (IsLexedTo x) k cs) (sym e) h

shorter_by : (front rest text : List ℕ) → 0 < length front → text ≡ front ++ rest → length rest < length text
shorter_by front rest text some e = let same = ap length e ∙ length-append front rest in omega (arith, same, some)

module _ (old new : Reader) (at : ℕ) (text rest : List ℕ) (i : IsInside old) (same : lexed_of new.lexer ≡ lexed_of old.lexer) where
  -- a run of plain characters
  pub run_advances : (run : List ℕ) → takes_plain (kept_of old.builder) ≡ true → IsPlain run → 0 < length run → text ≡ run ++ rest → kept_of new.builder ≡ with_plain run (kept_of old.builder)
      → Advances old new at text rest
  run_advances run t p some parts kept_so = record {
    shorter = shorter_by run rest text some parts;
    reads = λ cs e h.
        let k = kept_of old.builder in
        let more_text : with_plain (encode_utf8_all p.characters) k ≡ kept_of new.builder = ap (λ bs. with_plain bs k) p.written ∙ sym kept_so in
        record {
          front = p.characters;
          parts = parts ∙ ap (λ bs. bs ++ rest) (sym p.written);
          read = lexed_as same (subst (λ m. HasTaken (IsLexedTo (lexed_of old.lexer)) m (cs ++ p.characters)) more_text
              (run_taken h (i.between _ _ h.unfinished h.read) i.inside p.characters t p.all_plain));
        };
  }

  -- a token
  pub token_advances : (t : Token) → IsLexed t → text ≡ encode_utf8_all (token_written t) ++ rest → length rest < length text → build (kept_of old.builder) (token_made at t) ≡ Ok (kept_of new.builder)
      → Advances old new at text rest
  token_advances t lexed parts short b = record {
    shorter = short;
    reads = λ cs e h. record {
      front = token_written t;
      parts = parts;
      read = lexed_as same (whole_taken h (i.between _ _ h.unfinished h.read) i.inside t lexed (kept_of new.builder) (subst (λ n. build (kept_of old.builder) (token_made n t) ≡ Ok (kept_of new.builder)) e b));
    };
  }

  -- the end tag of the innermost open element
  pub end_advances : EndsFirst (kept_of old.builder).open_elements text rest → length rest < length text → ok (ended (kept_of old.builder)) ≡ Ok (kept_of new.builder) → Advances old new at text rest
  end_advances first short b = record {
    shorter = short;
    reads = λ cs e h.
        let f = end_first _ h.tokens (kept_of old.builder) text rest h.built first in
        record {
          front = token_written (end_tag f.name []);
          parts = f.parts;
          read = lexed_as same (whole_taken h (i.between _ _ h.unfinished h.read) i.inside (end_tag f.name []) (f.named, refl) (kept_of new.builder) (f.built (size_of cs) ∙ b));
        };
  }

module _ (old : Reader) (at : ℕ) (text rest : List ℕ) (i : IsInside old) (t : Token) (lexed : IsLexed t) (parts : text ≡ encode_utf8_all (token_written t) ++ rest) where
  rejoined : (cs others : List ℕ) → encode_utf8_all cs ++ (encode_utf8_all (token_written t) ++ (rest ++ others)) ≡ encode_utf8_all cs ++ (text ++ others)
  rejoined cs others = ap (λ bs. encode_utf8_all cs ++ bs) (sym (append_assoc (encode_utf8_all (token_written t)) rest others) ∙ ap (λ bs. bs ++ others) (sym parts))

  pub token_misplaced : build (kept_of old.builder) (token_made at t) ≡ Err misfit.Misplaced → Refuses IsNotXml old at text at
  token_misplaced b = λ cs others e h.
      subst₂ IsNotXml (rejoined cs others) (sym e)
      (whole_misplaced h (i.between _ _ h.unfinished h.read) i.inside t lexed (rest ++ others) (subst (λ n. build (kept_of old.builder) (token_made n t) ≡ Err misfit.Misplaced) e b))

  pub token_too_deep : build (kept_of old.builder) (token_made at t) ≡ Err misfit.TooDeep → Refuses DepthPlace old at text at
  token_too_deep b = λ cs others e h.
      subst₂ DepthPlace (rejoined cs others) (sym e)
      (whole_too_deep h (i.between _ _ h.unfinished h.read) i.inside t lexed (rest ++ others) (subst (λ n. build (kept_of old.builder) (token_made n t) ≡ Err misfit.TooDeep) e b))

-- the first character alone

pub character_advances : (old new : Reader) (at : ℕ) (text rest : List ℕ) (c : ℕ) → text ≡ encode_utf8 c ++ rest → ((cs : List ℕ) → at ≡ size_of cs → HasRead old cs → HasRead new (cs ++ c ∷ []))
    → Advances old new at text rest
character_advances old new at text rest c e f = record {
  shorter = shorter_by (encode_utf8 c) rest text (some_length c) e;
  reads = λ cs s h. record { front = c ∷ []; parts = e ∙ ap (λ bs. bs ++ rest) (sym (append-nil (encode_utf8 c))); read = f cs s h };
}

pub character_refuses : (P : List ℕ → ℕ → Type 0) (old : Reader) (at place : ℕ) (text rest : List ℕ) (c : ℕ) → text ≡ encode_utf8 c ++ rest
    → ((cs others : List ℕ) → at ≡ size_of cs → HasRead old cs → P (encode_utf8_all (cs ++ c ∷ []) ++ others) place) → Refuses P old at text place
character_refuses P old at place text rest c e f = λ cs others s h.
    subst (λ bs. P bs place)
    (parts_of cs (c ∷ []) (rest ++ others)
    ∙ ap (λ bs. encode_utf8_all cs ++ bs) (ap (λ bs. bs ++ (rest ++ others)) (append-nil (encode_utf8 c)) ∙ sym (append_assoc (encode_utf8 c) rest others) ∙ ap (λ bs. bs ++ others) (sym e)))
    (f cs (rest ++ others) s h)
