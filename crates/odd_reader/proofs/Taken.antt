-- What a reader that has taken some characters makes of the next one, and of the end of the file.
use Rattle.std.proofs.Common.{◌≡◌, ◌≢◌, ◌⊎◌, inl, inr, ⊎_elim, ℕ, ◌+◌, Bool, true, false, List, [], ◌∷◌, ◌++◌, length, length-append, refl, sym, ap, ap₂, ◌∙◌, subst, append_assoc, append-nil, arith}
use Rattle.std.proofs.lemmas.Bool.{and_parts}
use Rattle.std.proofs.lemmas.List.Folds.{list_all-append}
use Rattle.std.proofs.lemmas.Str.{encode_same, length-le-encodes}
use Rattle.std.specs.Char.{IsScalar}
use Rattle.std.specs.Prelude.{Option, Some, None, Ok, Err, encode_utf8}
use Rattle.std.specs.Str.{encode_utf8_all}
use Rattle.odd_tokens.specs.Characters.{is_char}
use Rattle.odd_tokens.specs.Making.{token_made}
use Rattle.odd_tokens.specs.Openings.{Declaration, Opening, opening_written, declaration_written}
use Rattle.odd_tokens.specs.Tokens.{Token, character, token_written, tokens_written, size_of}
use Rattle.odd_tokens.specs.Unfinished.{IsMark, GoesOn, Ends, NoneBegins}
use Rattle.odd_tokens.specs.Whole.{IsRead, IsDeclared, IsWhole}
use Rattle.odd_tokens.specs.declared.token.Token.{Token as Made}
use Rattle.odd_tokens.specs.declared.token.Token.TheVariants as made
use Rattle.odd_tokens.proofs.Characters.{char_scalar}
use Rattle.odd_tokens.proofs.LexedSteps.{lexed_token}
use Rattle.odd_tokens.proofs.Unfinished.{one_made, whole_legal, whole_some}
use Rattle.odd_reader.specs.Building.{Kept, Built, begun, build}
use Rattle.odd_reader.specs.Reading.{HasBuilt, nothing, more, is_fresh, HasTaken, place_of}
use Rattle.odd_tree.specs.Spelled.{Begins, GivesTree, NoneFits, NoneTooDeep, DepthPlace, IsNotXml, IsWholeOpening}
use Rattle.odd_reader.specs.declared.misfit.Misfit.{Misfit}
use Rattle.odd_reader.specs.declared.misfit.Misfit.TheVariants as misfit
use Rattle.odd_tree.specs.declared.tree.Tree.{Tree}
use Rattle.odd_reader.proofs.StandsOpen.{none_deep, one_depth_open, shallow_after}
use Rattle.odd_tree.proofs.Fits.{FitAfter, all_fit, fit_append, written-append, size_of_append}
use Rattle.odd_reader.proofs.Openings.{none_open}
use Rattle.odd_reader.proofs.Places.{GoesOn as Longer, characters_part, nothing_begins, parts_of, whole_opening}
use Rattle.odd_reader.proofs.Refusing.{depth_at, fault_at}
use Rattle.odd_reader.proofs.Stands.{Stands, nothing_stands, taken_stands, taken_shallow, too_deep_fits, fit_taken, stands_open, stands_closed, document_stands}

-- what the builder took fits, and opens no level too many

pub record IsSound (start : ℕ) (ts : List Token) (k : Kept) : Type 0 where
  pub fit : FitAfter [] ts
  pub shallow : NoneTooDeep ts
  pub stands : Stands start ts k

pub sound : (start : ℕ) (ts : List Token) (k : Kept) → HasBuilt start ts k → IsSound start ts k
sound start ts k nothing = record { fit = tt; shallow = none_deep; stands = nothing_stands start }
sound start us m (more {ts = ts} {k = k} t b lexed built e) =
    let s = sound start ts k b in
    let f = taken_stands start ts t k m s.stands lexed built in
    let now = stands_open start ts k s.stands in
    subst (λ xs. IsSound start xs m) (sym e) (record {
      fit = fit_append [] ts (t ∷ []) s.fit (f.0, tt);
      shallow = shallow_after ts t s.shallow (λ h tags o. let n : length tags ≡ length k.open_elements = one_depth_open tags now.0 o now.1 ∙ now.2 in
          let d = taken_shallow k m _ t h built in omega (arith, n, d));
      stands = f.1;
    })

not_empty : {A : Type 0} (xs : List A) (x : A) → xs ++ x ∷ [] ≢ []
not_empty [] x e = cc
not_empty (y ∷ ys) x e = cc

begun_still : (start : ℕ) (ts : List Token) (k : Kept) → HasBuilt start ts k → ts ≡ [] → k ≡ begun
begun_still start ts k nothing e = refl
begun_still start us m (more {ts = ts} t b lexed built p) e = absurd (not_empty ts t (sym p ∙ e))

-- what stands first in nothing is nothing whole
pub none_in_nothing : (fresh : Bool) (at : ℕ) (front left : List ℕ) (t : Made) → [] ≡ front ++ left → IsWhole fresh at front t → ⊥
none_in_nothing fresh at [] left t e w = whole_some fresh at t w
none_in_nothing fresh at (c ∷ cs) left t e w = cc e

-- where nothing but a byte order mark was read

pub nothing_taken : {reads : Bool → ℕ → List ℕ → Type 0} {k : Kept} → ((at : ℕ) → reads true at []) → k ≡ begun → HasTaken reads k []
nothing_taken r e = record {
  opening = record { mark = false; declaration = None };
  is_opening = tt;
  tokens = [];
  built = subst (HasBuilt 0 []) (sym e) nothing;
  unfinished = [];
  parts = refl;
  read = r 0;
  none_whole = λ front left t e w. none_in_nothing true 0 front left t e w;
}

fresh_parts : (d : Option Declaration) (ts : List Token) → is_fresh d ts ≡ true → (d ≡ None) × (ts ≡ [])
fresh_parts None [] e = (refl, refl)
fresh_parts None (t ∷ ts) e = cc
fresh_parts (Some d) ts e = cc

pub not_fresh : (d : Option Declaration) (ts : List Token) (t : Token) → is_fresh d (ts ++ t ∷ []) ≡ false
not_fresh None [] t = refl
not_fresh None (u ∷ us) t = refl
not_fresh (Some d) ts t = refl

first_place : (m : Bool) (d : Option Declaration) (ts : List Token) → m ≡ false → is_fresh d ts ≡ true → size_of (opening_written (record { mark = m; declaration = d }) ++ tokens_written ts) ≡ 0
first_place false None [] e f = refl
first_place false None (t ∷ ts) e f = cc
first_place false (Some d) ts e f = cc
first_place true d ts e f = cc

no_bytes : (cs : List ℕ) → size_of cs ≡ 0 → cs ≡ []
no_bytes [] h = refl
no_bytes (c ∷ cs) h = absurd (omega (arith, h, length-le-encodes (c ∷ cs)))

-- a declaration after a byte order mark, or after nothing
mark_alone : (o : Opening) (ts : List Token) → o.declaration ≡ None → ts ≡ [] → (d : Declaration)
    → (opening_written o ++ tokens_written ts) ++ declaration_written d ≡ (opening_written (record { mark = o.mark; declaration = Some d }) ++ []) ++ []
mark_alone o ts e f d = rw (f, e) (simp (append-nil))

one_ok : (x : Built) (a b : Kept) → x ≡ Ok a → x ≡ Ok b → a ≡ b
one_ok x a b e f = cc

-- the next character

second_part : (xs ys : List ℕ) → xs ++ ys ≡ [] → ys ≡ []
second_part [] ys e = e
second_part (x ∷ xs) ys e = cc e

same_first : (c z : ℕ) (rest others : List ℕ) → encode_utf8_all (c ∷ []) ++ rest ≡ encode_utf8 z ++ others → z ≡ c
same_first c z rest others e = (encode_same z c others rest (sym e ∙ ap (λ bs. bs ++ rest) (append-nil (encode_utf8 c)))).0

-- the front of characters with one more is all of them, or a front of those before
all_or_front : (xs front left : List ℕ) (c : ℕ) → xs ++ c ∷ [] ≡ front ++ left → (front ≡ xs ++ c ∷ []) ⊎ ((ys : List ℕ) × (xs ≡ front ++ ys))
all_or_front xs [] left c e = inr (xs, refl)
all_or_front [] (f ∷ []) left c e = inl (cc e)
all_or_front [] (f ∷ (g ∷ fs)) left c e = cc e
all_or_front (x ∷ xs) (f ∷ fs) left c e =
    let same : x ≡ f = cc e in
    ⊎_elim (λ p. inl (ap₂ ◌∷◌ (sym same) p)) (λ (p : (ys : List ℕ) × (xs ≡ fs ++ ys)). inr (p.0, ap₂ ◌∷◌ same p.1)) (all_or_front xs fs left c (cc e))

-- whatever is whole at the place is misplaced, and no byte order mark opens the file there
record IsStuck (fresh : Bool) (at : ℕ) (k : Kept) (left : List ℕ) : Type 0 where
  refused : (whole others : List ℕ) (t : Made) → IsWhole fresh at whole t → left ≡ encode_utf8_all whole ++ others → build k t ≡ Err misfit.Misplaced
  unmarked : (others : List ℕ) → fresh ≡ true → at ≡ 0 → left ≢ encode_utf8_all (0xFEFF ∷ []) ++ others

mark_whole : (fresh : Bool) (at : ℕ) → IsWhole fresh at (0xFEFF ∷ []) (made.Character 0xFEFF)
unfolding is_char
mark_whole fresh at = inl (record { token = character 0xFEFF; is_lexed = (refl, λ e. cc e, λ e. cc e); is_written = refl; is_made = refl })

all_stuck : (fresh : Bool) (at : ℕ) (k : Kept) (left : List ℕ) → ((whole others : List ℕ) (t : Made) → IsWhole fresh at whole t → left ≢ encode_utf8_all whole ++ others) → IsStuck fresh at k left
all_stuck fresh at k left n = record {
  refused = λ whole others t w e. absurd (n whole others t w e);
  unmarked = λ others f z e. n (0xFEFF ∷ []) others (made.Character 0xFEFF) (mark_whole fresh at) e;
}

passed_apart : (k : Kept) (t : Made) (e : Misfit) → t ≡ made.Passed → build k t ≢ Err e
passed_apart k t e p b = let f = ap (build k) (sym p) ∙ b in cc

module _ {reads : Bool → ℕ → List ℕ → Type 0} {k : Kept} {cs : List ℕ} (h : HasTaken reads k cs) where
  abbrev fresh : Bool
  fresh = is_fresh h.opening.declaration h.tokens

  abbrev start : ℕ
  start = size_of (opening_written h.opening)

  abbrev here : List ℕ
  here = opening_written h.opening ++ tokens_written h.tokens

  pub place_between : h.unfinished ≡ [] → place_of h ≡ size_of cs
  place_between e = sym (ap size_of (h.parts ∙ ap (λ xs. here ++ xs) e ∙ append-nil here))

  s : IsSound start h.tokens k
  s = sound start h.tokens k h.built

  at : place_of h ≡ start + size_of (tokens_written h.tokens)
  at = size_of_append (opening_written h.opening) (tokens_written h.tokens)

  -- a beginning of the file, whatever the rest is

  abbrev left_over : List ℕ → List ℕ
  left_over rest = encode_utf8_all h.unfinished ++ rest

  written : (rest : List ℕ) → encode_utf8_all cs ++ rest ≡ encode_utf8_all here ++ left_over rest
  written rest = ap (λ xs. encode_utf8_all xs ++ rest) h.parts ∙ parts_of here h.unfinished rest

  abbrev beginning : (rest : List ℕ) → Begins (encode_utf8_all cs ++ rest) (left_over rest)
  beginning rest = record { opening = h.opening; is_opening = h.is_opening; tokens = h.tokens; all_fit = all_fit h.tokens s.fit; written = written rest }

  placed : (rest : List ℕ) → place_of h + length (left_over rest) ≡ length (encode_utf8_all cs ++ rest)
  placed rest = omega (arith, ap length (written rest), length-append (encode_utf8_all here) (left_over rest))

  -- what is whole at the place goes on into the rest
  whole_here : (rest whole others : List ℕ) (t : Made) → IsWhole fresh (place_of h) whole t → left_over rest ≡ encode_utf8_all whole ++ others
      → (z : ℕ) × (zs : List ℕ) × (whole ≡ h.unfinished ++ z ∷ zs) × (rest ≡ encode_utf8 z ++ (encode_utf8_all zs ++ others))
  whole_here rest whole others t w e =
      ⊎_elim longer (λ (g : Longer whole h.unfinished others rest). absurd (h.none_whole whole g.0 t g.1 w)) (characters_part h.unfinished whole rest others e)
    where
      longer : Longer h.unfinished whole rest others → (z : ℕ) × (zs : List ℕ) × (whole ≡ h.unfinished ++ z ∷ zs) × (rest ≡ encode_utf8 z ++ (encode_utf8_all zs ++ others))
      longer ([], p, q) = absurd (h.none_whole whole [] t (sym (append-nil h.unfinished) ∙ sym p ∙ sym (append-nil whole)) w)
      longer (z ∷ zs, p, q) = (z, zs, p, q ∙ append_assoc (encode_utf8 z) (encode_utf8_all zs) others)

  -- the fault is at the place

  stuck_place : (rest : List ℕ) → IsStuck fresh (place_of h) k (left_over rest) → (left_over rest ≡ [] → (t : Tree) → k.root ≡ Some t → ⊥) → IsNotXml (encode_utf8_all cs ++ rest) (place_of h)
  stuck_place rest stuck none_ends =
      fault_at (beginning rest) opened s.shallow none_fits (place_of h) (placed rest)
      (λ e t d. let u = document_stands start h.tokens k t s.stands d in none_ends e u.0 u.1)
    where
      opened : IsWholeOpening (encode_utf8_all cs ++ rest) h.opening
      opened = whole_opening (beginning rest) (λ f. record {
        unmarked = λ m others e. stuck.unmarked others f (first_place h.opening.mark h.opening.declaration h.tokens m f) e;
        undeclared = λ d others i e.
            passed_apart k made.Passed misfit.Misplaced refl
            (stuck.refused (declaration_written d) others made.Passed (inr (f, record { declaration = d; is_declaration = i; is_written = refl; is_made = refl })) e);
      })

      none_fits : NoneFits h.tokens (left_over rest)
      none_fits t others f e =
          let refused = stuck.refused (token_written t) others (token_made (place_of h) t)
          (inl (record { token = t; is_lexed = lexed_token t f.token; is_written = refl; is_made = refl })) e in
          let deep = fit_taken start (place_of h) h.tokens t k misfit.Misplaced s.stands f refused in
          let apart : misfit.Misplaced ≡ misfit.TooDeep = deep.0 in
          cc

  -- where nothing whole goes on into the rest
  dead_place : (rest : List ℕ) → ((z : ℕ) (zs others : List ℕ) (t : Made) → IsWhole fresh (place_of h) (h.unfinished ++ z ∷ zs) t → rest ≢ encode_utf8 z ++ (encode_utf8_all zs ++ others))
      → (left_over rest ≡ [] → (t : Tree) → k.root ≡ Some t → ⊥) → IsNotXml (encode_utf8_all cs ++ rest) (place_of h)
  dead_place rest n none_ends = stuck_place rest (all_stuck fresh (place_of h) k (left_over rest) nothing_whole) none_ends
    where
      nothing_whole : (whole others : List ℕ) (t : Made) → IsWhole fresh (place_of h) whole t → left_over rest ≢ encode_utf8_all whole ++ others
      nothing_whole whole others t w e =
          let g = whole_here rest whole others t w e in
          n g.0 g.1 others t (subst (λ xs. IsWhole fresh (place_of h) xs t) g.2 w) g.3

  -- at the end of the file
  pub end_place : (h.unfinished ≡ [] → (t : Tree) → k.root ≡ Some t → ⊥) → IsNotXml (encode_utf8_all cs) (place_of h)
  end_place none_ends =
      subst (λ bs. IsNotXml bs (place_of h)) (append-nil (encode_utf8_all cs))
      (dead_place [] (λ z zs others t w e. nothing_begins z zs others (e ∙ sym (append_assoc (encode_utf8 z) (encode_utf8_all zs) others)))
      (λ e. none_ends (no_bytes h.unfinished (ap length (sym (append-nil (encode_utf8_all h.unfinished)) ∙ e)))))

  -- before bytes with which no character begins
  pub cut_place : (rest : List ℕ) → rest ≢ [] → ((c : ℕ) (left : List ℕ) → IsScalar c → rest ≢ encode_utf8 c ++ left) → IsNotXml (encode_utf8_all cs ++ rest) (place_of h)
  cut_place rest some none =
      dead_place rest
      (λ z zs others t w e.
      let legal = sym (list_all-append is_char h.unfinished (z ∷ zs)) ∙ whole_legal fresh (place_of h) (h.unfinished ++ z ∷ zs) t w in
      none z (encode_utf8_all zs ++ others) (char_scalar z (and_parts _ _ (and_parts _ _ legal).1).0) e)
      (λ e. absurd (some (second_part (encode_utf8_all h.unfinished) rest e)))

  module _ (c : ℕ) (rest : List ℕ) where
    abbrev next : List ℕ
    next = encode_utf8_all (c ∷ []) ++ rest

    some_left : left_over next ≢ []
    some_left e = nothing_begins c [] rest (sym (second_part (encode_utf8_all h.unfinished) next e))

    -- what is whole goes on with the character
    with_next : (z : ℕ) (zs others : List ℕ) (t : Made) → IsWhole fresh (place_of h) (h.unfinished ++ z ∷ zs) t → next ≡ encode_utf8 z ++ (encode_utf8_all zs ++ others)
        → IsWhole fresh (place_of h) ((h.unfinished ++ c ∷ []) ++ zs) t
    with_next z zs others t w e =
        let same : z ≡ c = same_first c z rest (encode_utf8_all zs ++ others) e in
        subst (λ xs. IsWhole fresh (place_of h) xs t) (ap (λ x. h.unfinished ++ x ∷ zs) same ∙ sym (append_assoc h.unfinished (c ∷ []) zs)) w

    -- no token begins with what was read and the character
    pub malformed_place : NoneBegins fresh (place_of h) (h.unfinished ++ c ∷ []) → IsNotXml (encode_utf8_all (cs ++ c ∷ []) ++ rest) (place_of h)
    malformed_place none =
        subst (λ bs. IsNotXml bs (place_of h)) (sym (parts_of cs (c ∷ []) rest))
        (dead_place next (λ z zs others t w e. none zs t (with_next z zs others t w e)) (λ e. absurd (some_left e)))

    module _ (t : Made) (w : IsWhole fresh (place_of h) (h.unfinished ++ c ∷ []) t) (unmarked : IsMark fresh (place_of h) (h.unfinished ++ c ∷ []) → ⊥) where
      -- the character ends a token, and no other is whole at the place
      one_whole : (whole others : List ℕ) (u : Made) → IsWhole fresh (place_of h) whole u → left_over next ≡ encode_utf8_all whole ++ others → (whole ≡ h.unfinished ++ c ∷ []) × (t ≡ u)
      one_whole whole others u v e =
          let g = whole_here next whole others u v e in
          let one = one_made fresh (place_of h) (h.unfinished ++ c ∷ []) g.1 t u unmarked w
          (with_next g.0 g.1 others u (subst (λ xs. IsWhole fresh (place_of h) xs u) g.2 v) g.3) in
          let same : g.0 ≡ c = same_first c g.0 rest (encode_utf8_all g.1 ++ others) g.3 in
          (g.2 ∙ ap₂ (λ z zs. h.unfinished ++ z ∷ zs) same one.0, one.1)

      -- it does not fit
      pub misplaced_place : build k t ≡ Err misfit.Misplaced → IsNotXml (encode_utf8_all (cs ++ c ∷ []) ++ rest) (place_of h)
      misplaced_place b =
          subst (λ bs. IsNotXml bs (place_of h)) (sym (parts_of cs (c ∷ []) rest))
          (stuck_place next (record {
            refused = λ whole others u v e. ap (build k) (sym (one_whole whole others u v e).1) ∙ b;
            unmarked = λ others f z e. unmarked (f, z, sym (one_whole (0xFEFF ∷ []) others (made.Character 0xFEFF) (mark_whole fresh (place_of h)) e).0);
          }) (λ e. absurd (some_left e)))

      -- it fits, and opens a level too many
      pub too_deep_place : build k t ≡ Err misfit.TooDeep → DepthPlace (encode_utf8_all (cs ++ c ∷ []) ++ rest) (place_of h)
      too_deep_place b = subst (λ bs. DepthPlace bs (place_of h)) (sym (parts_of cs (c ∷ []) rest)) (⊎_elim deep (λ d. absurd (passed_apart k t misfit.TooDeep d.1.is_made b)) w)
        where
          deep : IsRead (place_of h) (h.unfinished ++ c ∷ []) t → DepthPlace (encode_utf8_all cs ++ next) (place_of h)
          deep r =
              let d = too_deep_fits start (place_of h) h.tokens r.token k s.stands r.is_lexed (ap (build k) (sym r.is_made) ∙ b) in
              let o = stands_open start h.tokens k s.stands in
              let opened : IsWholeOpening (encode_utf8_all cs ++ next) h.opening =
              whole_opening (beginning next) (λ f. let none = ap length (none_open o.0 h.tokens o.1 (fresh_parts h.opening.declaration h.tokens f).1) in
              absurd (omega (arith, none, o.2, d.2))) in
              depth_at (beginning next) opened s.shallow (place_of h) (placed next) r.token rest d.0 d.1
              (sym (parts_of h.unfinished (c ∷ []) rest) ∙ ap (λ xs. encode_utf8_all xs ++ rest) (sym r.is_written)) o.0 o.1 (omega (arith, d.2, o.2))

  -- the end of the file, where nothing is unfinished
  pub gives_tree : (t : Tree) → h.unfinished ≡ [] → k.root ≡ Some t → GivesTree (encode_utf8_all cs) t
  gives_tree t e r = record {
    spelled = record {
      whole = record {
        opening = h.opening;
        is_opening = h.is_opening;
        tokens = h.tokens;
        all_fit = all_fit h.tokens s.fit;
        written = ap encode_utf8_all (h.parts ∙ ap (λ xs. here ++ xs) e ∙ append-nil here) ∙ sym (append-nil (encode_utf8_all here));
      };
      document = (stands_closed start h.tokens k t s.stands r).1;
    };
    shallow = s.shallow;
  }

  -- one more character is taken

  module _ {new : Bool → ℕ → List ℕ → Type 0} (c : ℕ) where
    -- as a part of a token that does not end, or as a byte order mark
    pub goes_on : GoesOn new fresh (place_of h) (h.unfinished ++ c ∷ []) → HasTaken new k (cs ++ c ∷ [])
    goes_on g = ⊎_elim marked within g
      where
        all : cs ++ c ∷ [] ≡ here ++ (h.unfinished ++ c ∷ [])
        all = ap (λ xs. xs ++ c ∷ []) h.parts ∙ append_assoc here h.unfinished (c ∷ [])

        marked : IsMark fresh (place_of h) (h.unfinished ++ c ∷ []) × ((at : ℕ) → new true at []) → HasTaken new k (cs ++ c ∷ [])
        marked m = record {
          opening = record { mark = true; declaration = None };
          is_opening = tt;
          tokens = [];
          built = subst (HasBuilt _ []) (sym (begun_still start h.tokens k h.built (fresh_parts h.opening.declaration h.tokens m.0.0).1)) nothing;
          unfinished = [];
          parts = all ∙ ap₂ ◌++◌ (no_bytes here m.0.1) m.0.2;
          read = m.1 _;
          none_whole = λ front left t e w. none_in_nothing _ _ front left t e w;
        }

        within : ((t : Made) → IsWhole fresh (place_of h) (h.unfinished ++ c ∷ []) t → ⊥) × new fresh (place_of h) (h.unfinished ++ c ∷ []) → HasTaken new k (cs ++ c ∷ [])
        within w = record {
          opening = h.opening;
          is_opening = h.is_opening;
          tokens = h.tokens;
          built = h.built;
          unfinished = h.unfinished ++ c ∷ [];
          parts = all;
          read = w.1;
          none_whole = λ front left t e v.
              ⊎_elim (λ p. w.0 t (subst (λ xs. IsWhole fresh (place_of h) xs t) p v)) (λ (p : (ys : List ℕ) × (h.unfinished ≡ front ++ ys)). h.none_whole front p.0 t p.1 v)
              (all_or_front h.unfinished front left c e);
        }

    -- as the last one of a token that fits, or of the declaration
    pub token_taken : (t : Made) (m : Kept) → Ends new t fresh (place_of h) (h.unfinished ++ c ∷ []) → build k t ≡ Ok m → HasTaken new m (cs ++ c ∷ [])
    token_taken t m w b = ⊎_elim token declared w.0
      where
        all : cs ++ c ∷ [] ≡ here ++ (h.unfinished ++ c ∷ [])
        all = ap (λ xs. xs ++ c ∷ []) h.parts ∙ append_assoc here h.unfinished (c ∷ [])

        token : IsRead (place_of h) (h.unfinished ++ c ∷ []) t → HasTaken new m (cs ++ c ∷ [])
        token r =
            let ts = h.tokens ++ r.token ∷ [] in
            let one : h.unfinished ++ c ∷ [] ≡ tokens_written (r.token ∷ []) = sym r.is_written ∙ sym (append-nil (token_written r.token)) in
            record {
              opening = h.opening;
              is_opening = h.is_opening;
              tokens = ts;
              built = more r.token h.built r.is_lexed (ap (build k) (sym (r.is_made ∙ ap (λ n. token_made n r.token) at)) ∙ b) refl;
              unfinished = [];
              parts = all ∙ ap (λ xs. here ++ xs) one ∙ append_assoc (opening_written h.opening) (tokens_written h.tokens) (tokens_written (r.token ∷ []))
                  ∙ ap (λ xs. opening_written h.opening ++ xs) (sym (written-append h.tokens (r.token ∷ []))) ∙ sym (append-nil (opening_written h.opening ++ tokens_written ts));
              read = subst (λ f. new f (size_of (opening_written h.opening ++ tokens_written ts)) []) (sym (not_fresh h.opening.declaration h.tokens r.token)) (w.2 _);
              none_whole = λ front left u e v. none_in_nothing _ _ front left u e v;
            }

        declared : (fresh ≡ true) × IsDeclared (h.unfinished ++ c ∷ []) t → HasTaken new m (cs ++ c ∷ [])
        declared d =
            let f = fresh_parts h.opening.declaration h.tokens d.0 in
            let same : begun ≡ m = one_ok (build k t) begun m (ap₂ build (begun_still start h.tokens k h.built f.1) d.1.is_made) b in
            record {
              opening = record { mark = h.opening.mark; declaration = Some d.1.declaration };
              is_opening = d.1.is_declaration;
              tokens = [];
              built = subst (HasBuilt _ []) same nothing;
              unfinished = [];
              parts = all ∙ ap (λ xs. here ++ xs) (sym d.1.is_written) ∙ mark_alone h.opening h.tokens f.0 f.1 d.1.declaration;
              read = w.2 _;
              none_whole = λ front left u e v. none_in_nothing _ _ front left u e v;
            }
