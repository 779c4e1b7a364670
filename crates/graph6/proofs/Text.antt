-- Texts and graphs: the text of a graph is well formed and has that graph; a well-formed text is that of its graph.
-- Assumes nothing.
use mathlib.Core.Path.{◌≡◌, refl, sym, ap, ◌∙◌}
use mathlib.Core.Bool.{Bool, true, false, ◌&&◌, ◌||◌, not, cond}
use mathlib.Core.List.{List, [], ◌∷◌, ◌++◌}
use Prim.Native.Nat.{ℕ, zero, suc, ◌+◌, ◌-◌, ◌*◌, ◌/◌, ◌%◌, ◌≤◌, ◌<◌}
use native.Mathlib.Decide.{ℕ_discrete, dec_lt}
use native.Mathlib.Omega.{arith}
use lib.Dec.{eqb, ltb, leb}
use lib.ListN.{length, get_or, drop, length-append, length-drop}
use lib.Seq.{ext_get_or, get_or-drop}
use borrow.Author.Tests.{eqb-true, leb-true, ltb-true, le-leb, lt-leb, lt-ltb, le-ltb, eq-eqb, ne_eqb}
use Rattle.finite.specs.Range.{all_to}
use Rattle.finite.proofs.All.{and_left, and_right, and_both, and-false, all_to-at, all_to-holds}
use Rattle.graph.specs.Graph.{Graph, Simple, SameOn}
use Rattle.slices.proofs.Zero.{all_zero-at, zeros-all_zero}
use Rattle.layout.specs.Layout.{most_vertices}
use Rattle.graph6.specs.Format.{offset, most_byte, short_most, size_bytes, triangle, packed, graph6_text, column_start, body_length, body_most, is_long, size_length, long_size, size_of, up_to, too_large, unpacked, body_bits, framed, zero_padded, well_formed_text, bit_of, text_graph}
use Rattle.graph6.proofs.Columns.{columns_most, place_of}
use Rattle.graph6.proofs.Bits.{triangle-length, triangle-at, triangle-past, triangle-binary, triangle-cong, packed-length, packed-at, packed-bytes, packed-unpacked, unpacked-binary, unpacked-six}

pub up-to : (m x : ℕ) → offset ≤ x → x ≤ m → up_to m x ≡ true
up-to m x low high = and_both (leb offset x) (leb x m) (le-leb offset x low) (le-leb x m high)

-- what the test of a frame says
pub record Framed (t : List ℕ) : Type 0 where
  pub low : (i : ℕ) → i < length t → offset ≤ get_or t i 0
  pub high : (i : ℕ) → i < length t → get_or t i 0 ≤ most_byte
  pub few : size_of t ≤ most_vertices
  pub needed : not (is_long t) || ltb short_most (size_of t) ≡ true
  pub whole : length t ≡ size_length t + body_length (size_of t)

pub framed-facts : (t : List ℕ) → framed t ≡ true → Framed t
framed-facts t h =
    let bytes : Bool = all_to (length t) (λ i. up_to most_byte (get_or t i 0)) in
    let few : Bool = leb (size_of t) most_vertices in
    let needed : Bool = not (is_long t) || ltb short_most (size_of t) in
    let whole : Bool = eqb (length t) (size_length t + body_length (size_of t)) in
    let a = and_left (bytes && few && needed) whole h in
    let b = and_left (bytes && few) needed a in
    let byte = all_to-at (λ i. up_to most_byte (get_or t i 0)) (length t) (and_left bytes few b) in
    record {
      low = λ i l. leb-true offset (get_or t i 0) (and_left (leb offset (get_or t i 0)) (leb (get_or t i 0) most_byte) (byte i l));
      high = λ i l. leb-true (get_or t i 0) most_byte (and_right (leb offset (get_or t i 0)) (leb (get_or t i 0) most_byte) (byte i l));
      few = leb-true (size_of t) most_vertices (and_right bytes few b);
      needed = and_right (bytes && few) needed a;
      whole = eqb-true (length t) (size_length t + body_length (size_of t)) (and_right (bytes && few && needed) whole h);
    }

pub framed-holds : (t : List ℕ) → Framed t → framed t ≡ true
framed-holds t f =
    and_both _ _
    (and_both _ _
    (and_both _ _ (all_to-holds (λ i. up_to most_byte (get_or t i 0)) (length t) (λ i l. up-to most_byte (get_or t i 0) (f.low i l) (f.high i l)))
    (le-leb (size_of t) most_vertices f.few))
    f.needed)
    (eq-eqb (length t) (size_length t + body_length (size_of t)) f.whole)

pub framed-many : (t : List ℕ) → most_vertices < size_of t → framed t ≡ false
framed-many t h =
    rw (lt-leb (size_of t) most_vertices h, and-false (all_to (length t) (λ i. up_to most_byte (get_or t i 0))))

-- The size. The text t begins with the size n as the format has it, and b comes behind it.
pub record Sized (n : ℕ) (t b : List ℕ) : Type 0 where
  pub said : size_of t ≡ n
  pub needed : not (is_long t) || ltb short_most (size_of t) ≡ true
  pub behind : drop (size_length t) t ≡ b
  pub together : length t ≡ size_length t + length b
  pub low : (i : ℕ) → i < size_length t → offset ≤ get_or t i 0
  pub high : (i : ℕ) → i < size_length t → get_or t i 0 ≤ most_byte

pub size-written : (n : ℕ) → n ≤ most_vertices → (b : List ℕ) → Sized n (size_bytes n ++ b) b
size-written n few b = go (dec_lt short_most n)
  where
    go : Dec (short_most < n) → Sized n (size_bytes n ++ b) b
    go (no h) = rw (le-leb n short_most (omega arith)) (short (ne_eqb (n + offset) most_byte (omega arith)))
      where
        short : eqb (n + offset) most_byte ≡ false → Sized n ((n + offset) ∷ b) b
        short e =
            record {
              said = rw e (omega arith);
              needed = rw e refl;
              behind = rw e refl;
              together = rw e (omega arith);
              low = rw e (λ i l. (byte i l).0);
              high = rw e (λ i l. (byte i l).1);
            }
          where
            byte : (i : ℕ) → i < 1 → (offset ≤ get_or ((n + offset) ∷ b) i 0) × (get_or ((n + offset) ∷ b) i 0 ≤ most_byte)
            byte i l = let z : i ≡ 0 = omega arith in rw z (omega arith, omega arith)
    go (yes h) = rw (lt-leb n short_most h) long
      where
        t : List ℕ
        t = most_byte ∷ (n / 4096 + offset) ∷ (n / 64 % 64 + offset) ∷ (n % 64 + offset) ∷ b

        said : size_of t ≡ n
        said = omega arith

        byte : (i : ℕ) → i < 4 → (offset ≤ get_or t i 0) × (get_or t i 0 ≤ most_byte)
        byte zero l = (omega arith, omega arith)
        byte (suc zero) l = (omega arith, omega arith)
        byte (suc (suc zero)) l = (omega arith, omega arith)
        byte (suc (suc (suc zero))) l = (omega arith, omega arith)
        byte (suc (suc (suc (suc i)))) l = absurd (omega arith)

        long : Sized n t b
        long =
            record {
              said = said;
              needed = rw said (lt-ltb short_most n h);
              behind = refl;
              together = omega arith;
              low = λ i l. (byte i l).0;
              high = λ i l. (byte i l).1;
            }

-- and a framed text begins with the size that it says
pub size_back : (t : List ℕ) → Framed t → size_bytes (size_of t) ++ drop (size_length t) t ≡ t
size_back t f = go t (ℕ_discrete (get_or t 0 0) most_byte) f.whole f.needed f.low f.high
  where
    long : (x y z : ℕ) (r : List ℕ) → let t = most_byte ∷ x ∷ y ∷ z ∷ r in
        ltb short_most (long_size t) ≡ true → (offset ≤ x) → (offset ≤ y) → (y ≤ most_byte) → (offset ≤ z) → (z ≤ most_byte)
        → size_bytes (long_size t) ++ r ≡ t
    long x y z r above x1 y1 y2 z1 z2 =
        let n = (x - offset) * 4096 + (y - offset) * 64 + (z - offset) in
        let a : n / 4096 + offset ≡ x = omega arith in
        let h : n / 64 ≡ (x - offset) * 64 + (y - offset) = omega arith in
        let b : n / 64 % 64 + offset ≡ y = middle (n / 64) h in
        let c : n % 64 + offset ≡ z = omega arith in
        rw (lt-leb n short_most (ltb-true short_most n above), a, b, c)
      where
        middle : (m : ℕ) → m ≡ (x - offset) * 64 + (y - offset) → m % 64 + offset ≡ y
        middle m e = omega arith

    go : (t : List ℕ) → Dec (get_or t 0 0 ≡ most_byte) → length t ≡ size_length t + body_length (size_of t) → not (is_long t) || ltb short_most (size_of t) ≡ true
        → ((i : ℕ) → i < length t → offset ≤ get_or t i 0) → ((i : ℕ) → i < length t → get_or t i 0 ≤ most_byte)
        → size_bytes (size_of t) ++ drop (size_length t) t ≡ t
    go [] d whole needed low high = absurd (omega arith)
    go (x ∷ r) (no d) whole needed low high =
        let a = low 0 (omega arith) in
        let b = high 0 (omega arith) in
        let e : x - offset + offset ≡ x = omega arith in
        rw (ne_eqb x most_byte d, le-leb (x - offset) short_most (omega arith), e)
    go (x ∷ []) (yes d) whole needed low high = absurd (omega (arith, rw (eq-eqb x most_byte d) at whole))
    go (x ∷ y ∷ []) (yes d) whole needed low high = absurd (omega (arith, rw (eq-eqb x most_byte d) at whole))
    go (x ∷ y ∷ z ∷ []) (yes d) whole needed low high = absurd (omega (arith, rw (eq-eqb x most_byte d) at whole))
    go (x ∷ y ∷ z ∷ u ∷ r) (yes d) whole needed low high =
        rw (eq-eqb x most_byte d, d)
        (long y z u r (rw (eq-eqb x most_byte d) at needed)
        (low 1 (omega arith)) (low 2 (omega arith)) (high 2 (omega arith)) (low 3 (omega arith)) (high 3 (omega arith)))

-- a framed text is not too large
pub framed-small : (t : List ℕ) → Framed t → too_large t ≡ false
framed-small t f = go (ℕ_discrete (get_or t 0 0) most_byte) f.few f.whole
  where
    go : Dec (get_or t 0 0 ≡ most_byte) → size_of t ≤ most_vertices → length t ≡ size_length t + body_length (size_of t) → too_large t ≡ false
    go (no d) few whole = rw (ne_eqb (get_or t 0 0) most_byte d)
    go (yes d) few whole =
        let e = eq-eqb (get_or t 0 0) most_byte d in
        let size : long_size t ≤ most_vertices = rw e at few in
        rw (e, ne_eqb (get_or t 1 0) most_byte (λ q. absurd (omega (arith, q, size))), le-ltb most_vertices (long_size t) size)
        (and-false (up_to 125 (get_or t 1 0) && up_to most_byte (get_or t 2 0) && up_to most_byte (get_or t 3 0)))

-- The graph of a text.
module _ (t : List ℕ) where
  pub graph_up : (v w : ℕ) → v < w → text_graph t v w ≡ bit_of t v w
  graph_up v w h = rw (lt-ltb v w h)

  pub graph_down : (v w : ℕ) → w < v → text_graph t v w ≡ bit_of t w v
  graph_down v w h = rw (le-ltb v w (omega arith), lt-ltb w v h)

  pub graph_loop : (v : ℕ) → text_graph t v v ≡ 0
  graph_loop v = rw (le-ltb v v (omega arith))

  -- it is simple
  pub graph_simple : (n : ℕ) → Simple n (text_graph t)
  graph_simple n =
      record {
        binary = λ v w l m. binary v w (dec_lt v w) (dec_lt w v);
        symmetric = λ v w l m. turned v w (dec_lt v w) (dec_lt w v);
        loopless = λ v l. graph_loop v;
      }
    where
      bit-binary : (v w : ℕ) → bit_of t v w ≤ 1
      bit-binary v w = unpacked-binary (drop (size_length t) t) (column_start w + v)

      same : (v w : ℕ) → (v < w → ⊥) → (w < v → ⊥) → v ≡ w
      same v w p q = omega arith

      binary : (v w : ℕ) → Dec (v < w) → Dec (w < v) → text_graph t v w ≤ 1
      binary v w (yes p) q = rw (graph_up v w p) (bit-binary v w)
      binary v w (no p) (yes q) = rw (graph_down v w q) (bit-binary w v)
      binary v w (no p) (no q) = rw (same v w p q, graph_loop w) (omega arith)

      turned : (v w : ℕ) → Dec (v < w) → Dec (w < v) → text_graph t v w ≡ text_graph t w v
      turned v w (yes p) q = graph_up v w p ∙ sym (graph_down w v p)
      turned v w (no p) (yes q) = graph_down v w q ∙ sym (graph_up w v q)
      turned v w (no p) (no q) = rw (same v w p q)

  -- a well-formed text is that of its graph
  module _ (well : well_formed_text t ≡ true) where
    frame : Framed t
    frame = framed-facts t (and_left (framed t) (zero_padded t) well)

    bits-same : (q : ℕ) → get_or (triangle (size_of t) (text_graph t)) q 0 ≡ get_or (body_bits t) q 0
    bits-same q = go (dec_lt q (column_start (size_of t)))
      where
        go : Dec (q < column_start (size_of t)) → get_or (triangle (size_of t) (text_graph t)) q 0 ≡ get_or (body_bits t) q 0
        go (yes l) =
            let p = place_of (size_of t) q l in
            rw p.4 (triangle-at (text_graph t) (size_of t) p.0 p.1 p.2 p.3 ∙ graph_up p.0 p.1 p.2)
        go (no l) =
            let k = q - column_start (size_of t) in
            let e : column_start (size_of t) + k ≡ q = omega arith in
            triangle-past (text_graph t) (size_of t) q (omega arith)
            ∙ sym (all_zero-at (drop (column_start (size_of t)) (body_bits t)) (and_right (framed t) (zero_padded t) well) k)
            ∙ get_or-drop (column_start (size_of t)) (body_bits t) k 0
            ∙ ap (λ (j : ℕ). get_or (body_bits t) j 0) e

    pub text_back : graph6_text (size_of t) (text_graph t) ≡ t
    text_back = ap (λ (b : List ℕ). size_bytes (size_of t) ++ b) body ∙ size_back t frame
      where
        b : List ℕ
        b = drop (size_length t) t

        x : List ℕ
        x = triangle (size_of t) (text_graph t)

        size : length (packed x) ≡ length b
        size = omega (arith, packed-length x, triangle-length (text_graph t) (size_of t), length-drop (size_length t) t, frame.whole)

        at : (p : ℕ) → p < length (packed x) → get_or (packed x) p 0 ≡ get_or b p 0
        at p l =
            let m : p < length b = omega (arith, size) in
            let here = get_or-drop (size_length t) t p 0 in
            let k : size_length t + p < length t = omega (arith, length-drop (size_length t) t) in
            packed-at x p (omega (arith, packed-length x))
            ∙ rw (bits-same (6 * p), bits-same (6 * p + 1), bits-same (6 * p + 2), bits-same (6 * p + 3), bits-same (6 * p + 4), bits-same (6 * p + 5))
            (unpacked-six b p m (rw here (frame.low (size_length t + p) k)) (rw here (frame.high (size_length t + p) k)))

        body : packed x ≡ b
        body = ext_get_or 0 (packed x) b size at

-- The text of a graph.
module _ (n : ℕ) (E : Graph) (few : n ≤ most_vertices) (simple : Simple n E) where
  sized : Sized n (graph6_text n E) (packed (triangle n E))
  sized = size-written n few (packed (triangle n E))

  -- its bits are those of the graph
  text-bits : (q : ℕ) → get_or (body_bits (graph6_text n E)) q 0 ≡ get_or (triangle n E) q 0
  text-bits q =
      ap (λ (b : List ℕ). get_or (unpacked b) q 0) sized.behind ∙ packed-unpacked (triangle n E) (triangle-binary E n simple) q

  pub text_bit : (v w : ℕ) → v < w → w < n → bit_of (graph6_text n E) v w ≡ E v w
  text_bit v w h l = text-bits (column_start w + v) ∙ triangle-at E n v w h l

  pub text_size : size_of (graph6_text n E) ≡ n
  text_size = sized.said

  pub text_length : length (graph6_text n E) ≡ length (size_bytes n) + body_length n
  text_length = length-append (size_bytes n) (packed (triangle n E)) ∙ ap (λ (m : ℕ). length (size_bytes n) + m) (packed-length (triangle n E) ∙ ap (λ (m : ℕ). (m + 5) / 6) (triangle-length E n))

  pub text-most : length (graph6_text n E) ≤ 4 + body_most
  text-most = omega (arith, text_length, columns_most n few, size-most (leb n short_most))
    where
      size-most : (b : Bool)
          → length (cond b ((n + offset) ∷ []) (most_byte ∷ (n / 4096 + offset) ∷ (n / 64 % 64 + offset) ∷ (n % 64 + offset) ∷ [])) ≤ 4
      size-most true = omega arith
      size-most false = omega arith

  pub text_well_formed : well_formed_text (graph6_text n E) ≡ true
  text_well_formed =
      and_both (framed (graph6_text n E)) (zero_padded (graph6_text n E)) (framed-holds (graph6_text n E) frame)
      (zeros-all_zero (drop (column_start (size_of (graph6_text n E))) (body_bits (graph6_text n E)))
      (λ i l. get_or-drop (column_start (size_of (graph6_text n E))) (body_bits (graph6_text n E)) i 0 ∙ text-bits _ ∙ padding i))
    where
      padding : (i : ℕ) → get_or (triangle n E) (column_start (size_of (graph6_text n E)) + i) 0 ≡ 0
      padding i = triangle-past E n _ (omega (arith, ap column_start text_size))

      body : (i : ℕ) → i < length (graph6_text n E) → Dec (i < size_length (graph6_text n E))
          → (offset ≤ get_or (graph6_text n E) i 0) × (get_or (graph6_text n E) i 0 ≤ most_byte)
      body i l (yes h) = (sized.low i h, sized.high i h)
      body i l (no h) =
          let k = i - size_length (graph6_text n E) in
          let e : i ≡ size_length (graph6_text n E) + k = omega arith in
          let here = ap (λ (j : ℕ). get_or (graph6_text n E) j 0) e
          ∙ sym (get_or-drop (size_length (graph6_text n E)) (graph6_text n E) k 0)
          ∙ ap (λ (b : List ℕ). get_or b k 0) sized.behind in
          rw here (packed-bytes (triangle n E) (triangle-binary E n simple) k (omega (arith, sized.together)))

      frame : Framed (graph6_text n E)
      frame =
          record {
            low = λ i l. (body i l (dec_lt i (size_length (graph6_text n E)))).0;
            high = λ i l. (body i l (dec_lt i (size_length (graph6_text n E)))).1;
            few = rw text_size few;
            needed = sized.needed;
            whole = sized.together ∙ ap (λ (m : ℕ). size_length (graph6_text n E) + m)
                (packed-length (triangle n E) ∙ ap (λ (m : ℕ). (m + 5) / 6) (triangle-length E n ∙ ap column_start (sym text_size)));
          }

-- graphs with the same edges have the same text
pub text_cong : (n : ℕ) (E E' : Graph) → SameOn n E E' → graph6_text n E' ≡ graph6_text n E
text_cong n E E' same =
    ap (λ (x : List ℕ). size_bytes n ++ packed x) (triangle-cong n E' E (λ v w h l. same v w (omega arith) l))
