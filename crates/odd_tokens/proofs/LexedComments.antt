-- The lexer takes comments, instructions and CDATA sections.
use Rattle.std.proofs.Common.{◌≡◌, ℕ, Bool, true, false, ◌==◌, ◌&&◌, if◌then◌else◌, List, [], ◌∷◌, ◌++◌, Some, None, codes, refl, ap, ◌∙◌, subst, ◌||◌, not, sym, arith, append_assoc, nat_lt}
use Rattle.std.proofs.lemmas.Bool.{cond-true, cond-false, eqb-true, and_parts, false_from_ne_true, and_from, and_left, and_right, or_parts, both_ways, false≢true, not-true}
use Rattle.std.proofs.lemmas.Bool.Decides.{nat_tests}
use Rattle.std.proofs.lemmas.List.{append-nil}
use Rattle.std.proofs.lemmas.Str.{encodes_same, encodes-append}
use Rattle.std.specs.Char.{to_ascii_lowercase, encode_utf8}
use Rattle.std.specs.Cmp.Lexicographic.{same_text}
use Rattle.std.specs.List.{list_all}
use Rattle.std.specs.Str.{encode_utf8_all, str_eq_ignore_ascii_case}
use Rattle.odd_tokens.proofs.Ascii.{ascii_codes}
use Rattle.odd_tokens.proofs.AttributesLexed.{at_space, space_ends, question_ends}
use Rattle.odd_tokens.proofs.Characters.{start_is_legal, name_char_is_legal, encoded_more, some_encoded}
use Rattle.odd_tokens.proofs.InTokenTexts.{one_read, lines_seen, piece_encoded, seen_lines}
use Rattle.odd_tokens.proofs.LexedSteps.{Yields, stepped, ended}
use Rattle.odd_tokens.proofs.Lexing.{IsInComment, lacks_later, comment_later}
use Rattle.odd_tokens.specs.Characters.{is_char, is_space, is_name_start, is_name_char, is_ncname}
use Rattle.odd_tokens.specs.Lexing.{Lexed, next, target_ends, brackets_before}
use Rattle.odd_tokens.specs.Lines.{lines_read}
use Rattle.odd_text.specs.Same.{is_same}
use Rattle.odd_tokens.specs.Tokens.{IsText, LacksPart, is_xml, is_set_off}
use Rattle.odd_tokens.specs.declared.lexer.State.TheVariants as state
use Rattle.odd_tokens.specs.declared.token.Token.{Token}
use Rattle.odd_tokens.specs.declared.token.Token.TheVariants as token

-- a test has one of two answers
pub decide : {P : Type 0} (b : Bool) → (b ≡ true → P) → (b ≡ false → P) → P
decide true f g = f refl
decide false f g = g refl

pub with_first : (c d : ℕ) (cs : List ℕ) → c ≡ d → c ∷ cs ≡ d ∷ cs
with_first c d cs e = ap (λ x. x ∷ cs) e

module _ (l : Lexed) (plain : l.declares ≡ false) (opened : l.opening ≡ false) where
  abbrev in_comment : ℕ → Lexed
  in_comment dashes = record l { state = state.Comment dashes }

  -- a character, after one that is no hyphen, and after a hyphen
  comment_next : (c at : ℕ) (x : Bool) → is_char c ≡ true → (c == 0x2D) ≡ x → next (in_comment 0) at c ≡ Some (in_comment (if x then 1 else 0), None)
  comment_next c at x h e = cond-true _ _ _ h ∙ ap (λ b. Some (in_comment (if b then 1 else 0), None)) e

  hyphen_next : (c at : ℕ) (x : Bool) → is_char c ≡ true → (c == 0x2D) ≡ x → next (in_comment 1) at c ≡ Some (in_comment (if x then 2 else 0), None)
  hyphen_next c at x h e = cond-true _ _ _ h ∙ ap (λ b. Some (in_comment (if b then 2 else 0), None)) e

  comment_ends : Yields (in_comment 0) (codes "-->") token.Passed
  unfolding is_char
  comment_ends = stepped (λ at. refl) (stepped (λ at. refl) (ended (λ at. refl) (record { between = refl; plain = plain }) opened))

  mutual
    pub comment_yields : (cs : List ℕ) → IsText cs → IsInComment cs → Yields (in_comment 0) (cs ++ codes "-->") token.Passed
    comment_yields [] h i = comment_ends
    comment_yields (c ∷ cs) h i =
        let both = and_parts (is_char c) (list_all is_char cs) h in
        decide (c == 0x2D)
        (λ e. stepped (λ at. comment_next c at true both.0 e) (hyphen_yields cs both.1 (subst IsInComment (with_first c 0x2D cs (eqb-true c 0x2D e)) i)))
        (λ e. stepped (λ at. comment_next c at false both.0 e) (comment_yields cs both.1 (comment_later c cs i)))

    hyphen_yields : (cs : List ℕ) → IsText cs → IsInComment (0x2D ∷ cs) → Yields (in_comment 1) (cs ++ codes "-->") token.Passed
    hyphen_yields [] h i = absurd (i.1 [] refl)
    hyphen_yields (c ∷ cs) h i =
        let both = and_parts (is_char c) (list_all is_char cs) h in
        let apart : (c == 0x2D) ≡ false = false_from_ne_true _ (λ e. i.0 [] cs (ap (λ x. 0x2D ∷ x) (with_first c 0x2D cs (eqb-true c 0x2D e)))) in
        stepped (λ at. hyphen_next c at false both.0 apart) (comment_yields cs both.1 (comment_later c cs (comment_later 0x2D (c ∷ cs) i)))

  -- in an instruction, after a question mark or not

  abbrev in_instruction : Bool → Lexed
  in_instruction marked = record l { state = state.Instruction marked }

  instruction_next : (c at : ℕ) (marked x : Bool) → is_char c ≡ true → (marked && c == 0x3E) ≡ false → (c == 0x3F) ≡ x → next (in_instruction marked) at c ≡ Some (in_instruction x, None)
  instruction_next c at marked x h n e = cond-true _ _ _ h ∙ cond-false _ _ _ n ∙ ap (λ b. Some (in_instruction b, None)) e

  instruction_ends : (marked : Bool) → Yields (in_instruction marked) (codes "?>") token.Passed
  unfolding is_char
  instruction_ends true = stepped (λ at. refl) (ended (λ at. refl) (record { between = refl; plain = plain }) opened)
  instruction_ends false = stepped (λ at. refl) (ended (λ at. refl) (record { between = refl; plain = plain }) opened)

  mutual
    pub instruction_yields : (cs : List ℕ) → IsText cs → LacksPart (codes "?>") cs → Yields (in_instruction false) (cs ++ codes "?>") token.Passed
    instruction_yields [] h i = instruction_ends false
    instruction_yields (c ∷ cs) h i =
        let both = and_parts (is_char c) (list_all is_char cs) h in
        decide (c == 0x3F)
        (λ e. stepped (λ at. instruction_next c at false true both.0 refl e) (marked_yields cs both.1 (subst (LacksPart (codes "?>")) (with_first c 0x3F cs (eqb-true c 0x3F e)) i)))
        (λ e. stepped (λ at. instruction_next c at false false both.0 refl e) (instruction_yields cs both.1 (lacks_later (codes "?>") c cs i)))

    marked_yields : (cs : List ℕ) → IsText cs → LacksPart (codes "?>") (0x3F ∷ cs) → Yields (in_instruction true) (cs ++ codes "?>") token.Passed
    marked_yields [] h i = instruction_ends true
    marked_yields (c ∷ cs) h i =
        let both = and_parts (is_char c) (list_all is_char cs) h in
        let apart : (c == 0x3E) ≡ false = false_from_ne_true _ (λ e. i [] cs (ap (λ x. 0x3F ∷ x) (with_first c 0x3E cs (eqb-true c 0x3E e)))) in
        let later : LacksPart (codes "?>") (c ∷ cs) = lacks_later (codes "?>") 0x3F (c ∷ cs) i in
        decide (c == 0x3F)
        (λ e. stepped (λ at. instruction_next c at true true both.0 apart e) (marked_yields cs both.1 (subst (LacksPart (codes "?>")) (with_first c 0x3F cs (eqb-true c 0x3F e)) later)))
        (λ e. stepped (λ at. instruction_next c at true false both.0 apart e) (instruction_yields cs both.1 (lacks_later (codes "?>") c cs later)))

-- a target whose bytes are xml in some case is so itself

x_lower : (b : ℕ) → (to_ascii_lowercase b == 0x78) ≡ true → ((b == 0x78 || b == 0x58) ≡ true) × (nat_lt b 128 ≡ true)
x_lower b h = (grind (arith, nat_tests), grind (arith, nat_tests))

m_lower : (b : ℕ) → (to_ascii_lowercase b == 0x6D) ≡ true → ((b == 0x6D || b == 0x4D) ≡ true) × (nat_lt b 128 ≡ true)
m_lower b h = (grind (arith, nat_tests), grind (arith, nat_tests))

l_lower : (b : ℕ) → (to_ascii_lowercase b == 0x6C) ≡ true → ((b == 0x6C || b == 0x4C) ≡ true) × (nat_lt b 128 ≡ true)
l_lower b h = (grind (arith, nat_tests), grind (arith, nat_tests))

xml_bytes : (bytes : List ℕ) → str_eq_ignore_ascii_case bytes (codes "xml") ≡ true → (is_xml bytes ≡ true) × (list_all (λ c. nat_lt c 128) bytes ≡ true)
xml_bytes [] h = cc
xml_bytes (a ∷ []) h = absurd (false≢true (and_parts (to_ascii_lowercase a == 0x78) _ h).1)
xml_bytes (a ∷ b ∷ []) h = absurd (false≢true (and_parts (to_ascii_lowercase b == 0x6D) _ (and_parts (to_ascii_lowercase a == 0x78) _ h).1).1)
xml_bytes (a ∷ b ∷ c ∷ []) h =
    let p = and_parts (to_ascii_lowercase a == 0x78) _ h in
    let q = and_parts (to_ascii_lowercase b == 0x6D) _ p.1 in
    let r = and_parts (to_ascii_lowercase c == 0x6C) _ q.1 in
    let x = x_lower a p.0 in
    let m = m_lower b q.0 in
    let l = l_lower c r.0 in
    (and_from _ _ (and_from _ _ x.0 m.0) l.0, and_from _ _ x.1 (and_from _ _ m.1 (and_from _ _ l.1 refl)))
xml_bytes (a ∷ b ∷ c ∷ d ∷ rest) h =
    let p = and_parts (to_ascii_lowercase a == 0x78) _ h in
    let q = and_parts (to_ascii_lowercase b == 0x6D) _ p.1 in
    absurd (false≢true (and_parts (to_ascii_lowercase c == 0x6C) _ q.1).1)

xml_target : (cs : List ℕ) → str_eq_ignore_ascii_case (encode_utf8_all cs) (codes "xml") ≡ true → is_xml cs ≡ true
xml_target cs h =
    let b = xml_bytes (encode_utf8_all cs) h in
    let e : cs ≡ encode_utf8_all cs = encodes_same cs (encode_utf8_all cs) (sym (ascii_codes (encode_utf8_all cs) b.1)) in
    subst (λ x. is_xml x ≡ true) (sym e) b.0

other_target : (cs : List ℕ) → not (is_xml cs) ≡ true → str_eq_ignore_ascii_case (encode_utf8_all cs) (codes "xml") ≡ false
other_target cs h = false_from_ne_true _ (λ e. both_ways _ (not-true (is_xml cs) h) (xml_target cs e))

same_target : (cs : List ℕ) → not (is_xml cs) ≡ true → is_same (encode_utf8_all cs) (codes "xml") ≡ false
same_target cs h =
    false_from_ne_true _ (λ e. both_ways _ (other_target cs h) (ap (λ bytes. str_eq_ignore_ascii_case bytes (codes "xml")) (same_text (encode_utf8_all cs) (codes "xml") (sym e))))

module _ (l : Lexed) (plain : l.declares ≡ false) where
  -- in the target, with the characters that were read
  abbrev pub in_target : List ℕ → Lexed
  in_target read = record l { state = state.Target; text = encode_utf8_all read }

  target_first : (c at : ℕ) → is_name_start c ≡ true → next (in_target []) at c ≡ Some (in_target (c ∷ []), None)
  target_first c at h = cond-true _ _ _ (start_is_legal c h) ∙ cond-true _ _ _ h ∙ ap (λ x. Some (record l { state = state.Target; text = x }, None)) (sym (encoded_more [] c))

  target_next : (d : ℕ) (read : List ℕ) (c at : ℕ) → is_name_char c ≡ true → next (in_target (d ∷ read)) at c ≡ Some (in_target ((d ∷ read) ++ c ∷ []), None)
  target_next d read c at h =
      cond-true _ _ _ (name_char_is_legal c h) ∙ cond-false _ _ _ (some_encoded d read) ∙ cond-true _ _ _ h
      ∙ ap (λ x. Some (record l { state = state.Target; text = x }, None)) (sym (encoded_more (d ∷ read) c))

  -- the character after the target
  target_last : (d : ℕ) (read : List ℕ) (c at : ℕ) → is_char c ≡ true → is_name_char c ≡ false → (c == 0x3F || is_space c) ≡ true
      → next (in_target (d ∷ read)) at c ≡ target_ends (in_target (d ∷ read)) c
  target_last d read c at h n m = cond-true _ _ _ h ∙ cond-false _ _ _ (some_encoded d read) ∙ cond-false _ _ _ n ∙ cond-true _ _ _ m

  gathered : (cs : List ℕ) (d : ℕ) (read more : List ℕ) (t : Token) → list_all is_name_char cs ≡ true → Yields (in_target ((d ∷ read) ++ cs)) more t → Yields (in_target (d ∷ read)) (cs ++ more) t
  gathered [] d read more t h y = subst (λ x. Yields (in_target x) more t) (append-nil (d ∷ read)) y
  gathered (c ∷ cs) d read more t h y =
      let both = and_parts (is_name_char c) (list_all is_name_char cs) h in
      stepped (λ at. target_next d read c at both.0)
      (gathered cs d (read ++ c ∷ []) more t both.1 (subst (λ x. Yields (in_target x) more t) (sym (append_assoc (d ∷ read) (c ∷ []) cs)) y))

  pub target_read : (target more : List ℕ) (t : Token) → is_ncname target ≡ true → Yields (in_target target) more t → Yields (in_target []) (target ++ more) t
  target_read [] more t h y = cc
  target_read (c ∷ cs) more t h y =
      let both = and_parts (is_name_start c) (list_all is_name_char cs) h in
      stepped (λ at. target_first c at both.0) (gathered cs c [] more t both.1 y)

  -- what follows the target: nothing, or white space first

  none_yields : (d : ℕ) (read : List ℕ) → not (is_xml (d ∷ read)) ≡ true → Yields (in_target (d ∷ read)) (codes "?>") token.Passed
  unfolding is_char
  none_yields d read x =
      let n : (l.opening && false && is_same (encode_utf8_all (d ∷ read)) (codes "xml")) ≡ false = and_left _ _ (and_right l.opening false refl) in
      stepped (λ at. target_last d read 0x3F at refl (or_parts _ _ question_ends).0 refl ∙ cond-false _ _ _ n ∙ cond-false _ _ _ (other_target (d ∷ read) x))
      (ended (λ at. refl) (record { between = refl; plain = plain }) refl)

  rest_yields : (d : ℕ) (read rest : List ℕ) → not (is_xml (d ∷ read)) ≡ true → is_set_off rest ≡ true → IsText rest → LacksPart (codes "?>") rest
      → Yields (in_target (d ∷ read)) (rest ++ codes "?>") token.Passed
  rest_yields d read [] x s h i = none_yields d read x
  rest_yields d read (c ∷ cs) x s h i =
      let both = and_parts (is_char c) (list_all is_char cs) h in
      let e : (c == 0x3F) ≡ false = at_space (λ x. (x == 0x3F) ≡ false) refl refl refl refl c s in
      let m : (c == 0x3F || is_space c) ≡ true = at_space (λ x. (x == 0x3F || is_space x) ≡ true) refl refl refl refl c s in
      let n : (l.opening && not (c == 0x3F) && is_same (encode_utf8_all (d ∷ read)) (codes "xml")) ≡ false = and_right _ _ (same_target (d ∷ read) x) in
      let mid = record (in_target (d ∷ read)) { opening = false } in
      stepped
      (λ at. target_last d read c at both.0 (or_parts _ _ (space_ends c s)).0 m ∙ cond-false _ _ _ n ∙ cond-false _ _ _ (other_target (d ∷ read) x)
      ∙ ap (λ b. Some (record mid { state = if b then state.TargetQuestion else state.Instruction false }, None)) e)
      (instruction_yields mid plain refl cs both.1 (lacks_later (codes "?>") c cs i))

  pub instruction_read : (target rest : List ℕ) → is_ncname target ≡ true → not (is_xml target) ≡ true → is_set_off rest ≡ true → IsText rest → LacksPart (codes "?>") rest
      → Yields (in_target []) (target ++ (rest ++ codes "?>")) token.Passed
  instruction_read [] rest n x s h i = cc
  instruction_read (c ∷ cs) rest n x s h i = target_read (c ∷ cs) _ token.Passed n (rest_yields c cs rest x s h i)

module _ (l : Lexed) (plain : l.declares ≡ false) (opened : l.opening ≡ false) where
  -- in the text, with so many brackets kept back
  abbrev in_cdata : ℕ → Bool → List ℕ → Lexed
  in_cdata brackets after_return v = record l { state = state.Cdata brackets after_return; text = v }

  abbrev Ends : ℕ → Bool → List ℕ → List ℕ → Type 0
  Ends k b v cs = Yields (in_cdata k b v) (cs ++ codes "]]>") (token.Cdata ((v ++ brackets_before k) ++ encode_utf8_all (lines_seen b cs)))

  -- a character that is no bracket
  kept_then : (k : ℕ) (b : Bool) (v : List ℕ) (c : ℕ) (cs : List ℕ) → is_char c ≡ true → (c == 0x5D) ≡ false → (c == 0x3E && k == 2) ≡ false
      → Ends 0 (c == 0xD) ((v ++ brackets_before k) ++ encode_utf8_all (one_read b c)) cs → Ends k b v (c ∷ cs)
  kept_then k b v c cs h n m y =
      let w = v ++ brackets_before k in
      let e : (((w ++ encode_utf8_all (one_read b c)) ++ []) ++ encode_utf8_all (lines_seen (c == 0xD) cs)) ≡ w ++ encode_utf8_all (one_read b c ++ lines_seen (c == 0xD) cs) =
      simp (append-nil, encodes-append, append_assoc) in
      subst (λ x. Yields (in_cdata k b v) (c ∷ (cs ++ codes "]]>")) (token.Cdata x)) e
      (stepped (λ at. cond-true _ _ _ h ∙ cond-false _ _ _ n ∙ cond-false _ _ _ m ∙ ap (λ x. Some (in_cdata 0 (c == 0xD) (w ++ x), None)) (piece_encoded b c)) y)

  none_end : (b : Bool) (v : List ℕ) → Ends 0 b v []
  unfolding is_char
  none_end b v =
      let e : v ≡ (v ++ []) ++ [] = simp append-nil in
      subst (λ x. Yields (in_cdata 0 b v) (codes "]]>") (token.Cdata x)) e
      (stepped (λ at. refl) (stepped (λ at. refl) (ended (λ at. refl) (record { between = refl; plain = plain }) opened)))

  one_end : (v : List ℕ) → Ends 1 false v []
  unfolding is_char
  one_end v =
      let e : v ++ codes "]" ≡ (v ++ codes "]") ++ [] = simp append-nil in
      subst (λ x. Yields (in_cdata 1 false v) (codes "]]>") (token.Cdata x)) e
      (stepped (λ at. refl) (stepped (λ at. refl) (ended (λ at. refl) (record { between = refl; plain = plain }) opened)))

  two_end : (v : List ℕ) → Ends 2 false v []
  unfolding is_char
  two_end v =
      let e : (v ++ codes "]") ++ codes "]" ≡ (v ++ codes "]]") ++ [] = simp (append-nil, append_assoc) in
      subst (λ x. Yields (in_cdata 2 false v) (codes "]]>") (token.Cdata x)) e
      (stepped (λ at. refl) (stepped (λ at. refl) (ended (λ at. refl) (record { between = refl; plain = plain }) opened)))

  -- one more bracket

  bracket : (k j : ℕ) (b : Bool) (v w : List ℕ) (c : ℕ) (cs : List ℕ) → (c == 0x5D) ≡ true → ((at : ℕ) → next (in_cdata k b v) at c ≡ Some (in_cdata j false w, None))
      → w ++ brackets_before j ≡ (v ++ brackets_before k) ++ codes "]" → Ends j false w cs → Ends k b v (c ∷ cs)
  unfolding encode_utf8
  bracket k j b v w c cs is step e y =
      let x = encode_utf8_all (lines_seen false cs) in
      let joined : (w ++ brackets_before j) ++ x ≡ (v ++ brackets_before k) ++ (0x5D ∷ x) = ap (λ z. z ++ x) e ∙ append_assoc (v ++ brackets_before k) (codes "]") x in
      let seen : (v ++ brackets_before k) ++ (0x5D ∷ x) ≡ (v ++ brackets_before k) ++ encode_utf8_all (lines_seen b (c ∷ cs)) =
      ap (λ d. (v ++ brackets_before k) ++ encode_utf8_all (lines_seen b (d ∷ cs))) (sym (eqb-true c 0x5D is)) in
      subst (λ z. Yields (in_cdata k b v) (c ∷ (cs ++ codes "]]>")) (token.Cdata z)) (joined ∙ seen) (stepped step y)

  abbrev Lacks : List ℕ → Type 0
  Lacks cs = LacksPart (codes "]]>") cs

  mutual
    none_kept : (cs : List ℕ) (b : Bool) (v : List ℕ) → IsText cs → Lacks cs → Ends 0 b v cs
    none_kept [] b v h i = none_end b v
    none_kept (c ∷ cs) b v h i =
        let both = and_parts (is_char c) (list_all is_char cs) h in
        decide (c == 0x5D)
        (λ e. bracket 0 1 b v v c cs e (λ at. cond-true _ _ _ both.0 ∙ cond-true _ _ _ e) (simp append-nil) (one_kept cs v both.1 (subst Lacks (with_first c 0x5D cs (eqb-true c 0x5D e)) i)))
        (λ e. kept_then 0 b v c cs both.0 e (and_right (c == 0x3E) false refl) (none_kept cs (c == 0xD) _ both.1 (lacks_later (codes "]]>") c cs i)))

    one_kept : (cs : List ℕ) (v : List ℕ) → IsText cs → Lacks (0x5D ∷ cs) → Ends 1 false v cs
    one_kept [] v h i = one_end v
    one_kept (c ∷ cs) v h i =
        let both = and_parts (is_char c) (list_all is_char cs) h in
        decide (c == 0x5D)
        (λ e. bracket 1 2 false v v c cs e (λ at. cond-true _ _ _ both.0 ∙ cond-true _ _ _ e) (simp append_assoc) (two_kept cs v both.1 (subst (λ x. Lacks (0x5D ∷ x)) (with_first c 0x5D cs (eqb-true c 0x5D e)) i)))
        (λ e. kept_then 1 false v c cs both.0 e (and_right (c == 0x3E) false refl)
        (none_kept cs (c == 0xD) _ both.1 (lacks_later (codes "]]>") c cs (lacks_later (codes "]]>") 0x5D (c ∷ cs) i))))

    two_kept : (cs : List ℕ) (v : List ℕ) → IsText cs → Lacks (0x5D ∷ 0x5D ∷ cs) → Ends 2 false v cs
    two_kept [] v h i = two_end v
    two_kept (c ∷ cs) v h i =
        let both = and_parts (is_char c) (list_all is_char cs) h in
        let later : Lacks (0x5D ∷ c ∷ cs) = lacks_later (codes "]]>") 0x5D (0x5D ∷ c ∷ cs) i in
        let apart : (c == 0x3E) ≡ false = false_from_ne_true _ (λ e. i [] cs (ap (λ x. 0x5D ∷ 0x5D ∷ x) (with_first c 0x3E cs (eqb-true c 0x3E e)))) in
        decide (c == 0x5D)
        (λ e. bracket 2 2 false v (v ++ 0x5D ∷ []) c cs e (λ at. cond-true _ _ _ both.0 ∙ cond-true _ _ _ e) (simp append_assoc)
        (two_kept cs (v ++ 0x5D ∷ []) both.1 (subst (λ x. Lacks (0x5D ∷ x)) (with_first c 0x5D cs (eqb-true c 0x5D e)) later)))
        (λ e. kept_then 2 false v c cs both.0 e (and_left (c == 0x3E) true apart) (none_kept cs (c == 0xD) _ both.1 (lacks_later (codes "]]>") c cs (lacks_later (codes "]]>") 0x5D (c ∷ cs) later))))

  pub cdata_yields : (cs : List ℕ) → IsText cs → LacksPart (codes "]]>") cs → Yields (in_cdata 0 false []) (cs ++ codes "]]>") (token.Cdata (encode_utf8_all (lines_read cs)))
  cdata_yields cs h i = subst (λ x. Yields (in_cdata 0 false []) (cs ++ codes "]]>") (token.Cdata (encode_utf8_all x))) (seen_lines cs).0 (none_kept cs false [] h i)
