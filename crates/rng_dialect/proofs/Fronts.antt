-- The front of a text that a reader has taken.
use Rattle.std.proofs.Common.{◌≡◌, ℕ, ◌+◌, ◌≤◌, true, false, List, [], ◌∷◌, ◌++◌, Option, Some, None, length, length-append, take, refl, sym, ap, ap₂, ◌∙◌, subst, subst₂, IfOk, Err, append_assoc, append-nil, arith, IsUtf8}
use Rattle.std.proofs.Math.Seq.{take-append_seam}
use Rattle.std.proofs.lemmas.List.{nil_from_length}
use Rattle.std.proofs.lemmas.Str.{IsUtf8-past_char, chars-nil, chars_past_char, encodes-append, encodes-chars}
use Rattle.std.specs.Prelude.{encode_utf8, option_and_then}
use Rattle.std.specs.Option.{ok_or}
use Rattle.std.specs.Str.{chars, encode_utf8_all}
use Rattle.rng_dialect.specs.Dialect.{BeginsPattern, IsNoPatternAt, IsPattern, Spells}
use Rattle.rng_dialect.specs.Keeping.{Finishes, Keeps, Takes}
use Rattle.rng_dialect.specs.Reading.{State, LevelRead, after, ended, new_state, reads, step}
use Rattle.rng_dialect.specs.declared.reader.PatternReader.{PatternReader}
use Rattle.rng_dialect.specs.declared.refusal.PatternRefusal.TheVariants as refusals
use Rattle.rng_dialect.specs.declared.regex.Regex.{Regex}
use Rattle.rng_dialect.proofs.Alive.{alive_begins}
use Rattle.rng_dialect.proofs.Complete.{begun_alive, complete, reads_after}
use Rattle.rng_dialect.proofs.Sound.{after_more, sound}

-- so many bytes are taken, and the rest is not
pub record HasTaken (text rest : List ℕ) (at : ℕ) (reader : PatternReader) : Type 0 where
  pub utf8 : IsUtf8 rest
  pub front : List ℕ
  pub characters : chars text ≡ front ++ chars rest
  pub placed : at ≡ length (encode_utf8_all front)
  pub state : State
  pub reached : after new_state front ≡ Some state
  pub kept : Keeps state reader

pub none_taken : (text rest : List ℕ) (at : ℕ) (reader : PatternReader) → IsUtf8 text → rest ≡ text → at ≡ 0 → Keeps new_state reader → HasTaken text rest at reader
none_taken text rest at reader u e z k = record {
  utf8 = subst IsUtf8 (sym e) u;
  front = [];
  characters = ap chars (sym e);
  placed = z;
  state = new_state;
  reached = refl;
  kept = k;
}

-- a state after a character that is told to fit, or not to
fitting : (next : Option State) (new : PatternReader) → Takes next true new → (s : State) × (next ≡ Some s) × Keeps s new
fitting None new t = absurd t
fitting (Some s) new t = (s, refl, t)

misfitting : (next : Option State) (new : PatternReader) → Takes next false new → next ≡ None
misfitting None new t = refl
misfitting (Some s) new t = absurd t

-- one character more takes its bytes
size_more : (cs : List ℕ) (c : ℕ) → length (encode_utf8_all (cs ++ c ∷ [])) ≡ length (encode_utf8_all cs) + length (encode_utf8 c)
size_more cs c = ap length (encodes-append cs (c ∷ [])) ∙ length-append (encode_utf8_all cs) (encode_utf8 c ++ []) ∙ ap (λ bs. length (encode_utf8_all cs) + length bs) (append-nil (encode_utf8 c))

module _ (text rest left : List ℕ) (at c : ℕ) (old new : PatternReader) (h : HasTaken text rest at old) (e : rest ≡ encode_utf8 c ++ left) where
  more_characters : chars text ≡ (h.front ++ c ∷ []) ++ chars left
  more_characters = h.characters ∙ ap (λ cs. h.front ++ cs) (chars_past_char rest left c h.utf8 e) ∙ sym (append_assoc h.front (c ∷ []) (chars left))

  after_next : after new_state (h.front ++ c ∷ []) ≡ step h.state c
  after_next = after_more h.front c new_state ∙ ap (option_and_then (λ next. step next c)) h.reached

  pub next_taken : (next : ℕ) → next ≡ at + length (encode_utf8 c) → Takes (step h.state c) true new → HasTaken text left next new
  next_taken next n t =
      let fits = fitting (step h.state c) new t in
      record {
        utf8 = IsUtf8-past_char rest left c h.utf8 e;
        front = h.front ++ c ∷ [];
        characters = more_characters;
        placed = n ∙ ap (λ k. k + length (encode_utf8 c)) h.placed ∙ sym (size_more h.front c);
        state = fits.0;
        reached = after_next ∙ fits.1;
        kept = fits.2;
      }

  -- nothing that begins so is a pattern
  no_front : Takes (step h.state c) false new → BeginsPattern (h.front ++ c ∷ []) → ⊥
  no_front t b = let alive = begun_alive (h.front ++ c ∷ []) b in let none = misfitting (step h.state c) new t in cc (alive.1, after_next, none)

  pub misfit_place : Takes (step h.state c) false new → IsNoPatternAt (chars text) at
  misfit_place t =
      let front_is : take (length h.front) (chars text) ≡ h.front = ap (take (length h.front)) h.characters ∙ take-append_seam h.front (chars rest) in
      let more_is : take (length h.front + 1) (chars text) ≡ h.front ++ c ∷ [] =
      ap₂ take (sym (length-append h.front (c ∷ []))) more_characters ∙ take-append_seam (h.front ++ c ∷ []) (chars left) in (
        length h.front,
        record {
          none = λ r p. no_front t (chars left, r, (p.size, p.levels, subst (λ cs. Spells cs r p.size p.levels) more_characters p.spelled));
          place = record {
            within = omega (arith, ap length h.characters ∙ length-append h.front (chars rest));
            begins = subst BeginsPattern (sym front_is) (alive_begins h.front h.state h.reached);
            longest = λ short b. no_front t (subst BeginsPattern more_is b);
          };
        },
        h.placed ∙ ap (λ cs. length (encode_utf8_all cs)) (sym front_is),
      )

module _ (text rest : List ℕ) (at : ℕ) (reader : PatternReader) (h : HasTaken text rest at reader) (e : length rest ≡ 0) where
  all_taken : chars text ≡ h.front
  all_taken = h.characters ∙ ap (λ bs. h.front ++ chars bs) (nil_from_length rest e) ∙ ap (λ cs. h.front ++ cs) chars-nil ∙ append-nil h.front

  whole_read : reads new_state h.front ≡ ended h.state
  whole_read = ap (reads new_state) (sym (append-nil h.front)) ∙ reads_after h.front [] new_state ∙ ap (option_and_then (λ next. reads next [])) h.reached

  -- what the characters spell is the level that ends here
  level_ends : (r : Regex) → IsPattern (chars text) r → (l : LevelRead) × (ended h.state ≡ Some l) × (l.size ≤ 20000) × (l.levels ≤ 60)
  level_ends r p =
      let read = complete h.front r p.size p.levels (subst (λ cs. Spells cs r p.size p.levels) all_taken p.spelled) in
      (read.0, sym whole_read ∙ read.1, subst (λ n. n ≤ 20000) (sym read.3) p.few, subst (λ n. n ≤ 60) (sym read.4) p.low)

  pattern_of : (l : Option LevelRead) (r : Regex) → ended h.state ≡ l → Finishes l (Some r) → IsPattern (chars text) r
  pattern_of None r is f = absurd f
  pattern_of (Some l) r is f = record {
    size = l.size;
    levels = l.levels;
    spelled = subst₂ (λ cs q. Spells cs q l.size l.levels) (sym all_taken) (sym f.0) (sound h.front h.state l h.reached is);
    few = f.1;
    low = f.2;
  }

  none_of : (l : Option LevelRead) → ended h.state ≡ l → Finishes l None → (r : Regex) → IsPattern (chars text) r → ⊥
  none_of None is f r p = let read = level_ends r p in cc (is, read.1)
  none_of (Some l) is f r p =
      let read = level_ends r p in
      let same : read.0 ≡ l = cc (is, read.1) in
      f (subst (λ (m : LevelRead). m.size ≤ 20000) same read.2) (subst (λ (m : LevelRead). m.levels ≤ 60) same read.3)

  pub pattern_read : (r : Regex) → Finishes (ended h.state) (Some r) → IsPattern (chars text) r
  pattern_read r f = pattern_of (ended h.state) r refl f

  pub no_pattern_read : IsUtf8 text → Finishes (ended h.state) None → IsNoPatternAt (chars text) (length text)
  no_pattern_read u f =
      let whole : take (length (chars text)) (chars text) ≡ chars text = ap (take (length (chars text))) (sym (append-nil (chars text))) ∙ take-append_seam (chars text) [] in (
        length (chars text),
        record {
          none = none_of (ended h.state) refl f;
          place = record {
            within = omega arith;
            begins = subst BeginsPattern (sym (whole ∙ all_taken)) (alive_begins h.front h.state h.reached);
            longest = λ short b. absurd (omega arith);
          };
        },
        ap length (sym (encodes-chars text u)) ∙ ap (λ cs. length (encode_utf8_all cs)) (sym whole),
      )

-- both ends of reading
pub ended_pattern : (text rest : List ℕ) (at : ℕ) (reader : PatternReader) (found : Option Regex) → HasTaken text rest at reader → length rest ≡ 0
    → ((s : State) → Keeps s reader → Finishes (ended s) found) → IfOk (ok_or found (refusals.BadPattern (length text))) (IsPattern (chars text))
ended_pattern text rest at reader None h e f = tt
ended_pattern text rest at reader (Some r) h e f = pattern_read text rest at reader h e r (f h.state h.kept)

pub ended_bad : (text rest : List ℕ) (at : ℕ) (reader : PatternReader) (found : Option Regex) → HasTaken text rest at reader → length rest ≡ 0 → IsUtf8 text
    → ((s : State) → Keeps s reader → Finishes (ended s) found) → (place : ℕ) → ok_or found (refusals.BadPattern (length text)) ≡ Err (refusals.BadPattern place) → IsNoPatternAt (chars text) place
ended_bad text rest at reader None h e u f place bad = let same : length text ≡ place = cc in subst (IsNoPatternAt (chars text)) same (no_pattern_read text rest at reader h e u (f h.state h.kept))
ended_bad text rest at reader (Some r) h e u f place bad = cc
