-- Laws of blocks: the loops that load a block's words and extend them, one turn further; the folds over its rounds and over blocks.
-- Assumes nothing.
use Rattle.std.proofs.Common.{◌≡◌, ℕ, zero, suc, ◌+◌, ◌-◌, ◌*◌, ◌/◌, ◌<◌, ◌≤◌, List, [], ◌∷◌, ◌++◌, length, get_or, take, drop, set, sym, refl, ap, ◌∙◌, add-one, arith, length-append, length-take-le, length-drop, drop-cons, drop_of_length-le, get_or-take, take-suc-set}
use native.Mathlib.Nat.{suc-mul}
use lib.Seq.{sets}
use Rattle.std.specs.List.{fold, zip, flat_map}
use Rattle.std.specs.Simd.{first_chunks}
use Rattle.std.specs.Array.{IsMapOf}
use Rattle.std.specs.Fn.{Called}
use denote.Param.Members.{Mut}
use mathlib.Core.List.{map}
use Rattle.octets.specs.BigEndian.{big_endian, big_endian_bytes}
use Rattle.octets.proofs.BigEndian.{length-be-bytes}
use Rattle.octets.proofs.Stores.{part-sets-same}
use Rattle.sha256.specs.declared.State.{State}
use Rattle.sha256.specs.Digest.{block_words, schedule_word, next_word, extended, round, rounds, compressed, hashed, words_bytes}

-- ---- the words of a block

pub length-block-words : (n : ℕ) (b : List ℕ) → length (block_words n b) ≡ n
unfolding block_words
length-block-words zero b = refl
length-block-words (suc n) b = ap suc (length-block-words n (drop 4 b))

-- they are the big-endian numbers of its pieces of four bytes
pub pieces-words : (n : ℕ) (b : List ℕ) → map big_endian (first_chunks 4 n b) ≡ block_words n b
unfolding block_words
pieces-words zero b = refl
pieces-words (suc n) b = ap (λ (ws : List ℕ). big_endian (take 4 b) ∷ ws) (pieces-words n (drop 4 b))

chunk-length : (n k : ℕ) (l : List ℕ) (i : ℕ) → k * n ≤ length l → i < k → length (get_or (first_chunks n k l) i []) ≡ n
chunk-length n zero l i h b = absurd (omega arith)
chunk-length n (suc k) l zero h b = length-take-le n l (omega (arith, suc-mul k n))
chunk-length n (suc k) l (suc i) h b = chunk-length n k (drop n l) i (simp length-drop (omega (arith, suc-mul k n))) (omega arith)

length-chunks : (n k : ℕ) (l : List ℕ) → length (first_chunks n k l) ≡ k
length-chunks n zero l = refl
length-chunks n (suc k) l = ap suc (length-chunks n k (drop n l))

pub length-piece : (pieces : List (List ℕ)) (b : List ℕ) (i : ℕ) → pieces ≡ first_chunks 4 (length b / 4) b → i < length pieces
    → length (get_or pieces i []) ≡ 4
length-piece pieces b i front h =
    let k = length b / 4 in
    let count : length pieces ≡ k = ap length front ∙ length-chunks 4 k b in
    rw front (chunk-length 4 k b i (omega arith) (omega arith))

pub load-next : (w : List ℕ) (pieces : List (List ℕ)) (t x : ℕ) → t < length pieces → x ≡ big_endian (get_or pieces t [])
    → sets (set w t x) (t + 1) (map big_endian (drop (t + 1) pieces)) ≡ sets w t (map big_endian (drop t pieces))
load-next w pieces t x h e = rw (drop-cons pieces t [] h, e, add-one)

-- all are loaded where no piece is left
pub load-all : (w start : List ℕ) (b : List ℕ) (pieces : List (List ℕ)) (t : ℕ) → length b ≡ 64 → pieces ≡ first_chunks 4 (length b / 4) b → length pieces ≤ t
    → sets w t (map big_endian (drop t pieces)) ≡ sets start 0 (map big_endian pieces) → w ≡ sets start 0 (block_words 16 b)
load-all w start b pieces t size front none e =
    let words : map big_endian pieces ≡ block_words 16 b = ap (map big_endian) front ∙ pieces-words (length b / 4) b ∙ rw size in
    rw (drop_of_length-le pieces none, words) at e

-- the loaded words are the first sixteen
pub loaded : (w b : List ℕ) → length w ≡ 64 → take 16 (sets w 0 (block_words 16 b)) ≡ block_words 16 b
loaded w b e =
    let n = length-block-words 16 b in
    rw n at (part-sets-same w 0 (block_words 16 b) (omega (arith, n)))

-- ---- the other words of the schedule

-- the word at t, of the words in place before it
abbrev word_at : List ℕ → ℕ → ℕ
word_at w t = schedule_word (get_or w (t - 2) 0) (get_or w (t - 7) 0) (get_or w (t - 15) 0) (get_or w (t - 16) 0)

next-word-at : (w : List ℕ) (t : ℕ) → 16 ≤ t → t ≤ length w → next_word (take t w) ≡ word_at w t
unfolding next_word
next-word-at w t low h =
    ap (word_at (take t w)) (length-take-le t w h)
    ∙ rw (
      get_or-take t w (t - 2) 0 (omega arith),
      get_or-take t w (t - 7) 0 (omega arith),
      get_or-take t w (t - 15) 0 (omega arith),
      get_or-take t w (t - 16) 0 (omega arith),
    )

pub extend-next : (w : List ℕ) (t : ℕ) → 16 ≤ t → t < length w → length w ≡ 64
    → extended (64 - (t + 1)) (take (t + 1) (set w t (word_at w t))) ≡ extended (64 - t) (take t w)
unfolding extended
extend-next w t low h e =
    let left : 64 - t ≡ suc (64 - (t + 1)) = omega arith in
    let put : take (t + 1) (set w t (word_at w t)) ≡ take t w ++ (word_at w t ∷ []) = rw add-one (take-suc-set w t (word_at w t) h) in
    ap (extended (64 - (t + 1))) (put ∙ ap (λ (x : ℕ). take t w ++ (x ∷ [])) (sym (next-word-at w t low (omega arith))))
    ∙ ap (λ (n : ℕ). extended n (take t w)) (sym left)

-- ---- the rounds

pub rounds-fold : (s : State) (ks ws : List ℕ) → fold (λ v p. round v p.0 p.1) s (zip ks ws) ≡ rounds s ks ws
unfolding rounds
rounds-fold s [] ws = refl
rounds-fold s (k ∷ ks) [] = refl
rounds-fold s (k ∷ ks) (w ∷ ws) = rounds-fold (round s k w) ks ws

-- ---- the blocks of a message

pub hashed-fold : (n : ℕ) (s : State) (m : List ℕ) → fold compressed s (first_chunks 64 n m) ≡ hashed n s m
unfolding hashed
hashed-fold zero s m = refl
hashed-fold (suc n) s m = hashed-fold n (compressed s (take 64 m)) (drop 64 m)

-- ---- the words of the hash value as bytes

pub length-words-bytes : (ws : List ℕ) → length (words_bytes ws) ≡ 4 * length ws
unfolding words_bytes
length-words-bytes [] = refl
length-words-bytes (w ∷ ws) =
    length-append (big_endian_bytes 4 w) (words_bytes ws) ∙ rw (length-be-bytes 4 w, length-words-bytes ws) (omega arith)

-- what `map` leaves of a closure that changes nothing: each element is the closure's answer
pub mapped : {F A B : Type 0} (g : Mut F (A × Unit {0}) B) (f : F) (xs : List A) (ys : List B) (n : ℕ) (h : A → B) (d : A) (e : B)
    → ((x : A) (r : B) (p q : F) → Called g p (x, tt) r q → r ≡ h x) → IsMapOf g f xs ys n
    → (i : ℕ) → i < n → get_or ys i e ≡ h (get_or xs i d)
mapped g f xs ys n h d e answers m i b = let c = m.at i d e b in answers _ _ c.0 c.1 c.2

-- the bytes of each word, one behind the other
pub flat-words : (ws : List ℕ) (bs : List (List ℕ)) → length bs ≡ length ws
    → ((i : ℕ) → i < length ws → get_or bs i [] ≡ big_endian_bytes 4 (get_or ws i 0)) → flat_map (λ x. x) bs ≡ words_bytes ws
unfolding words_bytes
flat-words [] [] e h = refl
flat-words [] (b ∷ bs) e h = absurd (omega arith)
flat-words (w ∷ ws) [] e h = absurd (omega arith)
flat-words (w ∷ ws) (b ∷ bs) e h =
    rw (h 0 (omega arith)) (ap (λ (t : List ℕ). big_endian_bytes 4 w ++ t) (flat-words ws bs (omega arith) (λ i l. h (suc i) (omega arith))))
