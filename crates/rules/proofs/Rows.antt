-- The starred cases of document 01, rows 1 to 12, and further rows. Each is written from document 01 and our readings of it: manifest and
-- expected bytes are literal numbers. Tags are in hexadecimal in the comments, other numbers decimal; a number in brackets after a constant is its label.
-- After a refusal the whole output is zero; a catalog is followed by zeros up to the output's end. "Kills" names the wrong rules under
-- which the row would be false.
--
-- Rows 29 to 36 and row 16 are of the request that a default goes last, rows 37 to 44 of the request that definitions may stand anywhere. No starred row has a
-- default before another pattern or uses a definition before it stands, so the starred ones stand as they were.
use Prim.Native.Nat.{ℕ}
use mathlib.Core.List.{List, [], ◌∷◌}

-- what a row expects: the steps and all bytes of the catalog, or the number and the place
pub data Expected : Type 0 where
  accepted : (steps : ℕ) → (catalog : List ℕ) → Expected
  refused : (number place : ℕ) → Expected

-- a manifest, a device, a step limit, the lengths of output and memory, and what is expected
pub record Row : Type 0 where
  pub manifest : List ℕ
  pub device : List ℕ
  pub limit : ℕ
  pub output : ℕ
  pub memory : ℕ
  pub expected : Expected

-- * 1. The schedule of document 01, peak false: fee = 40 (1); peak = false (2); node default: if peak {fee = 55 (3)} {};
-- kiosk "front" (4): price = fee, screens = 2 (5).
-- The if joins {2} to the mark of fee in node, "each name assigned anywhere in any of its branches, taken or not"; fee itself is read from
-- top, {1}. "An attribute's set includes its resource's", {4}. So price 40 has 1,2,4 and screens 2 has 4,5. Steps: 21, 21, 22, 25.
-- Kills: marking only branches taken (price loses 2); a title's labels missing in its attributes (both lose 4).
unfoldable pub row1 : Row
row1 = record {
  manifest =
      1 ∷ 0 ∷ 47 ∷ 2 ∷ 0 ∷ 3 ∷ 102 ∷ 101 ∷ 101 ∷ 2 ∷ 0 ∷ 5 ∷ 102 ∷ 114 ∷ 111 ∷ 110 ∷ 116 ∷ 2 ∷ 0 ∷ 5 ∷ 107 ∷ 105 ∷ 111 ∷ 115 ∷ 107 ∷
      2 ∷ 0 ∷ 4 ∷ 112 ∷ 101 ∷ 97 ∷ 107 ∷ 2 ∷ 0 ∷ 5 ∷ 112 ∷ 114 ∷ 105 ∷ 99 ∷ 101 ∷ 2 ∷ 0 ∷ 7 ∷ 115 ∷ 99 ∷ 114 ∷ 101 ∷ 101 ∷ 110 ∷ 115 ∷
      33 ∷ 0 ∷ 14 ∷ 0 ∷ 0 ∷ 16 ∷ 0 ∷ 9 ∷ 1 ∷ 0 ∷ 0 ∷ 0 ∷ 0 ∷ 0 ∷ 0 ∷ 0 ∷ 40 ∷
      33 ∷ 0 ∷ 7 ∷ 0 ∷ 3 ∷ 18 ∷ 0 ∷ 2 ∷ 2 ∷ 0 ∷
      48 ∷ 0 ∷ 75 ∷ 27 ∷ 0 ∷ 0 ∷ 32 ∷ 0 ∷ 69 ∷
      34 ∷ 0 ∷ 28 ∷ 19 ∷ 0 ∷ 2 ∷ 0 ∷ 3 ∷ 32 ∷ 0 ∷ 17 ∷
      33 ∷ 0 ∷ 14 ∷ 0 ∷ 0 ∷ 16 ∷ 0 ∷ 9 ∷ 3 ∷ 0 ∷ 0 ∷ 0 ∷ 0 ∷ 0 ∷ 0 ∷ 0 ∷ 55 ∷ 32 ∷ 0 ∷ 0 ∷
      37 ∷ 0 ∷ 35 ∷ 0 ∷ 2 ∷ 17 ∷ 0 ∷ 3 ∷ 4 ∷ 0 ∷ 1 ∷
      38 ∷ 0 ∷ 7 ∷ 0 ∷ 4 ∷ 19 ∷ 0 ∷ 2 ∷ 0 ∷ 0 ∷
      38 ∷ 0 ∷ 14 ∷ 0 ∷ 5 ∷ 16 ∷ 0 ∷ 9 ∷ 5 ∷ 0 ∷ 0 ∷ 0 ∷ 0 ∷ 0 ∷ 0 ∷ 0 ∷ 2 ∷ [];
  device = 100 ∷ 101 ∷ 115 ∷ 107 ∷ [];
  limit = 65535;
  output = 300;
  memory = 65536;
  expected = accepted 4 (
      64 ∷ 0 ∷ 132 ∷ 0 ∷ 2 ∷ 0 ∷ 1 ∷
      16 ∷ 0 ∷ 0 ∷ 0 ∷ 0 ∷ 0 ∷ 0 ∷ 0 ∷ 0 ∷ 0 ∷ 0 ∷ 0 ∷ 0 ∷ 0 ∷ 0 ∷ 0 ∷ 0 ∷ 0 ∷ 0 ∷ 0 ∷ 0 ∷ 0 ∷ 0 ∷ 0 ∷ 0 ∷ 0 ∷ 0 ∷ 0 ∷ 0 ∷ 0 ∷ 0 ∷ 0 ∷
      65 ∷ 0 ∷ 45 ∷ 0 ∷ 4 ∷
      22 ∷ 0 ∷ 0 ∷ 0 ∷ 0 ∷ 0 ∷ 0 ∷ 0 ∷ 0 ∷ 0 ∷ 0 ∷ 0 ∷ 0 ∷ 0 ∷ 0 ∷ 0 ∷ 0 ∷ 0 ∷ 0 ∷ 0 ∷ 0 ∷ 0 ∷ 0 ∷ 0 ∷ 0 ∷ 0 ∷ 0 ∷ 0 ∷ 0 ∷ 0 ∷ 0 ∷ 0 ∷
      66 ∷ 0 ∷ 8 ∷ 0 ∷ 0 ∷ 0 ∷ 0 ∷ 0 ∷ 0 ∷ 0 ∷ 40 ∷
      65 ∷ 0 ∷ 45 ∷ 0 ∷ 5 ∷
      48 ∷ 0 ∷ 0 ∷ 0 ∷ 0 ∷ 0 ∷ 0 ∷ 0 ∷ 0 ∷ 0 ∷ 0 ∷ 0 ∷ 0 ∷ 0 ∷ 0 ∷ 0 ∷ 0 ∷ 0 ∷ 0 ∷ 0 ∷ 0 ∷ 0 ∷ 0 ∷ 0 ∷ 0 ∷ 0 ∷ 0 ∷ 0 ∷ 0 ∷ 0 ∷ 0 ∷ 0 ∷
      66 ∷ 0 ∷ 8 ∷ 0 ∷ 0 ∷ 0 ∷ 0 ∷ 0 ∷ 0 ∷ 0 ∷ 2 ∷ []);
}

-- * 2. The schedule with peak = true (2); only the byte of the 12 differs from row 1.
-- The branch runs with path {2} and assigns fee = 55 (3) in node scope, which hides top's fee (1): stored {2,3}. So price 55 has 2,3,4
-- ("with peak true the price is 55 with 2,3,4") and screens 2 has 4,5. The 21 in the branch is a fifth step.
-- Kills: a title's labels missing in its attributes (both lose 4).
unfoldable pub row2 : Row
row2 = record {
  manifest =
      1 ∷ 0 ∷ 47 ∷ 2 ∷ 0 ∷ 3 ∷ 102 ∷ 101 ∷ 101 ∷ 2 ∷ 0 ∷ 5 ∷ 102 ∷ 114 ∷ 111 ∷ 110 ∷ 116 ∷ 2 ∷ 0 ∷ 5 ∷ 107 ∷ 105 ∷ 111 ∷ 115 ∷ 107 ∷
      2 ∷ 0 ∷ 4 ∷ 112 ∷ 101 ∷ 97 ∷ 107 ∷ 2 ∷ 0 ∷ 5 ∷ 112 ∷ 114 ∷ 105 ∷ 99 ∷ 101 ∷ 2 ∷ 0 ∷ 7 ∷ 115 ∷ 99 ∷ 114 ∷ 101 ∷ 101 ∷ 110 ∷ 115 ∷
      33 ∷ 0 ∷ 14 ∷ 0 ∷ 0 ∷ 16 ∷ 0 ∷ 9 ∷ 1 ∷ 0 ∷ 0 ∷ 0 ∷ 0 ∷ 0 ∷ 0 ∷ 0 ∷ 40 ∷
      33 ∷ 0 ∷ 7 ∷ 0 ∷ 3 ∷ 18 ∷ 0 ∷ 2 ∷ 2 ∷ 1 ∷
      48 ∷ 0 ∷ 75 ∷ 27 ∷ 0 ∷ 0 ∷ 32 ∷ 0 ∷ 69 ∷
      34 ∷ 0 ∷ 28 ∷ 19 ∷ 0 ∷ 2 ∷ 0 ∷ 3 ∷ 32 ∷ 0 ∷ 17 ∷
      33 ∷ 0 ∷ 14 ∷ 0 ∷ 0 ∷ 16 ∷ 0 ∷ 9 ∷ 3 ∷ 0 ∷ 0 ∷ 0 ∷ 0 ∷ 0 ∷ 0 ∷ 0 ∷ 55 ∷ 32 ∷ 0 ∷ 0 ∷
      37 ∷ 0 ∷ 35 ∷ 0 ∷ 2 ∷ 17 ∷ 0 ∷ 3 ∷ 4 ∷ 0 ∷ 1 ∷
      38 ∷ 0 ∷ 7 ∷ 0 ∷ 4 ∷ 19 ∷ 0 ∷ 2 ∷ 0 ∷ 0 ∷
      38 ∷ 0 ∷ 14 ∷ 0 ∷ 5 ∷ 16 ∷ 0 ∷ 9 ∷ 5 ∷ 0 ∷ 0 ∷ 0 ∷ 0 ∷ 0 ∷ 0 ∷ 0 ∷ 2 ∷ [];
  device = 100 ∷ 101 ∷ 115 ∷ 107 ∷ [];
  limit = 65535;
  output = 300;
  memory = 65536;
  expected = accepted 5 (
      64 ∷ 0 ∷ 132 ∷ 0 ∷ 2 ∷ 0 ∷ 1 ∷
      16 ∷ 0 ∷ 0 ∷ 0 ∷ 0 ∷ 0 ∷ 0 ∷ 0 ∷ 0 ∷ 0 ∷ 0 ∷ 0 ∷ 0 ∷ 0 ∷ 0 ∷ 0 ∷ 0 ∷ 0 ∷ 0 ∷ 0 ∷ 0 ∷ 0 ∷ 0 ∷ 0 ∷ 0 ∷ 0 ∷ 0 ∷ 0 ∷ 0 ∷ 0 ∷ 0 ∷ 0 ∷
      65 ∷ 0 ∷ 45 ∷ 0 ∷ 4 ∷
      28 ∷ 0 ∷ 0 ∷ 0 ∷ 0 ∷ 0 ∷ 0 ∷ 0 ∷ 0 ∷ 0 ∷ 0 ∷ 0 ∷ 0 ∷ 0 ∷ 0 ∷ 0 ∷ 0 ∷ 0 ∷ 0 ∷ 0 ∷ 0 ∷ 0 ∷ 0 ∷ 0 ∷ 0 ∷ 0 ∷ 0 ∷ 0 ∷ 0 ∷ 0 ∷ 0 ∷ 0 ∷
      66 ∷ 0 ∷ 8 ∷ 0 ∷ 0 ∷ 0 ∷ 0 ∷ 0 ∷ 0 ∷ 0 ∷ 55 ∷
      65 ∷ 0 ∷ 45 ∷ 0 ∷ 5 ∷
      48 ∷ 0 ∷ 0 ∷ 0 ∷ 0 ∷ 0 ∷ 0 ∷ 0 ∷ 0 ∷ 0 ∷ 0 ∷ 0 ∷ 0 ∷ 0 ∷ 0 ∷ 0 ∷ 0 ∷ 0 ∷ 0 ∷ 0 ∷ 0 ∷ 0 ∷ 0 ∷ 0 ∷ 0 ∷ 0 ∷ 0 ∷ 0 ∷ 0 ∷ 0 ∷ 0 ∷ 0 ∷
      66 ∷ 0 ∷ 8 ∷ 0 ∷ 0 ∷ 0 ∷ 0 ∷ 0 ∷ 0 ∷ 0 ∷ 2 ∷ []);
}

-- * 3. The manifest of row 1 with limit 4: "Limit 4 accepts it".
-- Its four steps reach the limit and none would pass it; the catalog is that of row 1.
-- Kills: a step limit that refuses the last step allowed; what row 1 kills.
unfoldable pub row3 : Row
row3 = record {
  manifest =
      1 ∷ 0 ∷ 47 ∷ 2 ∷ 0 ∷ 3 ∷ 102 ∷ 101 ∷ 101 ∷ 2 ∷ 0 ∷ 5 ∷ 102 ∷ 114 ∷ 111 ∷ 110 ∷ 116 ∷ 2 ∷ 0 ∷ 5 ∷ 107 ∷ 105 ∷ 111 ∷ 115 ∷ 107 ∷
      2 ∷ 0 ∷ 4 ∷ 112 ∷ 101 ∷ 97 ∷ 107 ∷ 2 ∷ 0 ∷ 5 ∷ 112 ∷ 114 ∷ 105 ∷ 99 ∷ 101 ∷ 2 ∷ 0 ∷ 7 ∷ 115 ∷ 99 ∷ 114 ∷ 101 ∷ 101 ∷ 110 ∷ 115 ∷
      33 ∷ 0 ∷ 14 ∷ 0 ∷ 0 ∷ 16 ∷ 0 ∷ 9 ∷ 1 ∷ 0 ∷ 0 ∷ 0 ∷ 0 ∷ 0 ∷ 0 ∷ 0 ∷ 40 ∷
      33 ∷ 0 ∷ 7 ∷ 0 ∷ 3 ∷ 18 ∷ 0 ∷ 2 ∷ 2 ∷ 0 ∷
      48 ∷ 0 ∷ 75 ∷ 27 ∷ 0 ∷ 0 ∷ 32 ∷ 0 ∷ 69 ∷
      34 ∷ 0 ∷ 28 ∷ 19 ∷ 0 ∷ 2 ∷ 0 ∷ 3 ∷ 32 ∷ 0 ∷ 17 ∷
      33 ∷ 0 ∷ 14 ∷ 0 ∷ 0 ∷ 16 ∷ 0 ∷ 9 ∷ 3 ∷ 0 ∷ 0 ∷ 0 ∷ 0 ∷ 0 ∷ 0 ∷ 0 ∷ 55 ∷ 32 ∷ 0 ∷ 0 ∷
      37 ∷ 0 ∷ 35 ∷ 0 ∷ 2 ∷ 17 ∷ 0 ∷ 3 ∷ 4 ∷ 0 ∷ 1 ∷
      38 ∷ 0 ∷ 7 ∷ 0 ∷ 4 ∷ 19 ∷ 0 ∷ 2 ∷ 0 ∷ 0 ∷
      38 ∷ 0 ∷ 14 ∷ 0 ∷ 5 ∷ 16 ∷ 0 ∷ 9 ∷ 5 ∷ 0 ∷ 0 ∷ 0 ∷ 0 ∷ 0 ∷ 0 ∷ 0 ∷ 2 ∷ [];
  device = 100 ∷ 101 ∷ 115 ∷ 107 ∷ [];
  limit = 4;
  output = 300;
  memory = 65536;
  expected = accepted 4 (
      64 ∷ 0 ∷ 132 ∷ 0 ∷ 2 ∷ 0 ∷ 1 ∷
      16 ∷ 0 ∷ 0 ∷ 0 ∷ 0 ∷ 0 ∷ 0 ∷ 0 ∷ 0 ∷ 0 ∷ 0 ∷ 0 ∷ 0 ∷ 0 ∷ 0 ∷ 0 ∷ 0 ∷ 0 ∷ 0 ∷ 0 ∷ 0 ∷ 0 ∷ 0 ∷ 0 ∷ 0 ∷ 0 ∷ 0 ∷ 0 ∷ 0 ∷ 0 ∷ 0 ∷ 0 ∷
      65 ∷ 0 ∷ 45 ∷ 0 ∷ 4 ∷
      22 ∷ 0 ∷ 0 ∷ 0 ∷ 0 ∷ 0 ∷ 0 ∷ 0 ∷ 0 ∷ 0 ∷ 0 ∷ 0 ∷ 0 ∷ 0 ∷ 0 ∷ 0 ∷ 0 ∷ 0 ∷ 0 ∷ 0 ∷ 0 ∷ 0 ∷ 0 ∷ 0 ∷ 0 ∷ 0 ∷ 0 ∷ 0 ∷ 0 ∷ 0 ∷ 0 ∷ 0 ∷
      66 ∷ 0 ∷ 8 ∷ 0 ∷ 0 ∷ 0 ∷ 0 ∷ 0 ∷ 0 ∷ 0 ∷ 40 ∷
      65 ∷ 0 ∷ 45 ∷ 0 ∷ 5 ∷
      48 ∷ 0 ∷ 0 ∷ 0 ∷ 0 ∷ 0 ∷ 0 ∷ 0 ∷ 0 ∷ 0 ∷ 0 ∷ 0 ∷ 0 ∷ 0 ∷ 0 ∷ 0 ∷ 0 ∷ 0 ∷ 0 ∷ 0 ∷ 0 ∷ 0 ∷ 0 ∷ 0 ∷ 0 ∷ 0 ∷ 0 ∷ 0 ∷ 0 ∷ 0 ∷ 0 ∷ 0 ∷
      66 ∷ 0 ∷ 8 ∷ 0 ∷ 0 ∷ 0 ∷ 0 ∷ 0 ∷ 0 ∷ 0 ∷ 2 ∷ []);
}

-- * 4. The manifest of row 1 with limit 3: "3 is refused 6 at the resource".
-- The two 21s and the 22 are the three steps; the fourth, for the 25, "would pass the limit". The place is the 25.
-- Kills: a step limit one too large (accepted); 6 given at the statement before, the block or the node.
unfoldable pub row4 : Row
row4 = record {
  manifest =
      1 ∷ 0 ∷ 47 ∷ 2 ∷ 0 ∷ 3 ∷ 102 ∷ 101 ∷ 101 ∷ 2 ∷ 0 ∷ 5 ∷ 102 ∷ 114 ∷ 111 ∷ 110 ∷ 116 ∷ 2 ∷ 0 ∷ 5 ∷ 107 ∷ 105 ∷ 111 ∷ 115 ∷ 107 ∷
      2 ∷ 0 ∷ 4 ∷ 112 ∷ 101 ∷ 97 ∷ 107 ∷ 2 ∷ 0 ∷ 5 ∷ 112 ∷ 114 ∷ 105 ∷ 99 ∷ 101 ∷ 2 ∷ 0 ∷ 7 ∷ 115 ∷ 99 ∷ 114 ∷ 101 ∷ 101 ∷ 110 ∷ 115 ∷
      33 ∷ 0 ∷ 14 ∷ 0 ∷ 0 ∷ 16 ∷ 0 ∷ 9 ∷ 1 ∷ 0 ∷ 0 ∷ 0 ∷ 0 ∷ 0 ∷ 0 ∷ 0 ∷ 40 ∷
      33 ∷ 0 ∷ 7 ∷ 0 ∷ 3 ∷ 18 ∷ 0 ∷ 2 ∷ 2 ∷ 0 ∷
      48 ∷ 0 ∷ 75 ∷ 27 ∷ 0 ∷ 0 ∷ 32 ∷ 0 ∷ 69 ∷
      34 ∷ 0 ∷ 28 ∷ 19 ∷ 0 ∷ 2 ∷ 0 ∷ 3 ∷ 32 ∷ 0 ∷ 17 ∷
      33 ∷ 0 ∷ 14 ∷ 0 ∷ 0 ∷ 16 ∷ 0 ∷ 9 ∷ 3 ∷ 0 ∷ 0 ∷ 0 ∷ 0 ∷ 0 ∷ 0 ∷ 0 ∷ 55 ∷ 32 ∷ 0 ∷ 0 ∷
      37 ∷ 0 ∷ 35 ∷ 0 ∷ 2 ∷ 17 ∷ 0 ∷ 3 ∷ 4 ∷ 0 ∷ 1 ∷
      38 ∷ 0 ∷ 7 ∷ 0 ∷ 4 ∷ 19 ∷ 0 ∷ 2 ∷ 0 ∷ 0 ∷
      38 ∷ 0 ∷ 14 ∷ 0 ∷ 5 ∷ 16 ∷ 0 ∷ 9 ∷ 5 ∷ 0 ∷ 0 ∷ 0 ∷ 0 ∷ 0 ∷ 0 ∷ 0 ∷ 2 ∷ [];
  device = 100 ∷ 101 ∷ 115 ∷ 107 ∷ [];
  limit = 3;
  output = 300;
  memory = 65536;
  expected = refused 6 117;
}

-- * 5. kiosk "a" (1): fee = -7 (2) / 2 (3).
-- "Division rounds toward minus infinity": -4. The operator's set is the union over its operands, {2,3}, with the resource's {1}.
-- Kills: dividing toward zero (-3); a title's labels missing in its attributes (fee loses 1).
unfoldable pub row5 : Row
row5 = record {
  manifest =
      1 ∷ 0 ∷ 18 ∷ 2 ∷ 0 ∷ 1 ∷ 97 ∷ 2 ∷ 0 ∷ 3 ∷ 102 ∷ 101 ∷ 101 ∷ 2 ∷ 0 ∷ 5 ∷ 107 ∷ 105 ∷ 111 ∷ 115 ∷ 107 ∷
      37 ∷ 0 ∷ 41 ∷ 0 ∷ 2 ∷ 17 ∷ 0 ∷ 3 ∷ 1 ∷ 0 ∷ 0 ∷
      38 ∷ 0 ∷ 30 ∷ 0 ∷ 1 ∷ 22 ∷ 0 ∷ 25 ∷ 2 ∷ 16 ∷ 0 ∷ 9 ∷ 2 ∷ 255 ∷ 255 ∷ 255 ∷ 255 ∷ 255 ∷ 255 ∷ 255 ∷ 249 ∷
      16 ∷ 0 ∷ 9 ∷ 3 ∷ 0 ∷ 0 ∷ 0 ∷ 0 ∷ 0 ∷ 0 ∷ 0 ∷ 2 ∷ [];
  device = 100 ∷ 101 ∷ 115 ∷ 107 ∷ [];
  limit = 65535;
  output = 200;
  memory = 65536;
  expected = accepted 1 (
      64 ∷ 0 ∷ 84 ∷ 0 ∷ 2 ∷ 0 ∷ 0 ∷
      2 ∷ 0 ∷ 0 ∷ 0 ∷ 0 ∷ 0 ∷ 0 ∷ 0 ∷ 0 ∷ 0 ∷ 0 ∷ 0 ∷ 0 ∷ 0 ∷ 0 ∷ 0 ∷ 0 ∷ 0 ∷ 0 ∷ 0 ∷ 0 ∷ 0 ∷ 0 ∷ 0 ∷ 0 ∷ 0 ∷ 0 ∷ 0 ∷ 0 ∷ 0 ∷ 0 ∷ 0 ∷
      65 ∷ 0 ∷ 45 ∷ 0 ∷ 1 ∷
      14 ∷ 0 ∷ 0 ∷ 0 ∷ 0 ∷ 0 ∷ 0 ∷ 0 ∷ 0 ∷ 0 ∷ 0 ∷ 0 ∷ 0 ∷ 0 ∷ 0 ∷ 0 ∷ 0 ∷ 0 ∷ 0 ∷ 0 ∷ 0 ∷ 0 ∷ 0 ∷ 0 ∷ 0 ∷ 0 ∷ 0 ∷ 0 ∷ 0 ∷ 0 ∷ 0 ∷ 0 ∷
      66 ∷ 0 ∷ 8 ∷ 255 ∷ 255 ∷ 255 ∷ 255 ∷ 255 ∷ 255 ∷ 255 ∷ 252 ∷ []);
}

-- * 6. kiosk "a" (1): fee = 7 (2) / -2 (3).
-- "Division rounds toward minus infinity", also where the divisor is the negative one: -4, with 1,2,3.
-- Kills: dividing toward zero (-3); a title's labels missing in its attributes (fee loses 1).
unfoldable pub row6 : Row
row6 = record {
  manifest =
      1 ∷ 0 ∷ 18 ∷ 2 ∷ 0 ∷ 1 ∷ 97 ∷ 2 ∷ 0 ∷ 3 ∷ 102 ∷ 101 ∷ 101 ∷ 2 ∷ 0 ∷ 5 ∷ 107 ∷ 105 ∷ 111 ∷ 115 ∷ 107 ∷
      37 ∷ 0 ∷ 41 ∷ 0 ∷ 2 ∷ 17 ∷ 0 ∷ 3 ∷ 1 ∷ 0 ∷ 0 ∷
      38 ∷ 0 ∷ 30 ∷ 0 ∷ 1 ∷ 22 ∷ 0 ∷ 25 ∷ 2 ∷ 16 ∷ 0 ∷ 9 ∷ 2 ∷ 0 ∷ 0 ∷ 0 ∷ 0 ∷ 0 ∷ 0 ∷ 0 ∷ 7 ∷
      16 ∷ 0 ∷ 9 ∷ 3 ∷ 255 ∷ 255 ∷ 255 ∷ 255 ∷ 255 ∷ 255 ∷ 255 ∷ 254 ∷ [];
  device = 100 ∷ 101 ∷ 115 ∷ 107 ∷ [];
  limit = 65535;
  output = 200;
  memory = 65536;
  expected = accepted 1 (
      64 ∷ 0 ∷ 84 ∷ 0 ∷ 2 ∷ 0 ∷ 0 ∷
      2 ∷ 0 ∷ 0 ∷ 0 ∷ 0 ∷ 0 ∷ 0 ∷ 0 ∷ 0 ∷ 0 ∷ 0 ∷ 0 ∷ 0 ∷ 0 ∷ 0 ∷ 0 ∷ 0 ∷ 0 ∷ 0 ∷ 0 ∷ 0 ∷ 0 ∷ 0 ∷ 0 ∷ 0 ∷ 0 ∷ 0 ∷ 0 ∷ 0 ∷ 0 ∷ 0 ∷ 0 ∷
      65 ∷ 0 ∷ 45 ∷ 0 ∷ 1 ∷
      14 ∷ 0 ∷ 0 ∷ 0 ∷ 0 ∷ 0 ∷ 0 ∷ 0 ∷ 0 ∷ 0 ∷ 0 ∷ 0 ∷ 0 ∷ 0 ∷ 0 ∷ 0 ∷ 0 ∷ 0 ∷ 0 ∷ 0 ∷ 0 ∷ 0 ∷ 0 ∷ 0 ∷ 0 ∷ 0 ∷ 0 ∷ 0 ∷ 0 ∷ 0 ∷ 0 ∷ 0 ∷
      66 ∷ 0 ∷ 8 ∷ 255 ∷ 255 ∷ 255 ∷ 255 ∷ 255 ∷ 255 ∷ 255 ∷ 252 ∷ []);
}

-- * 7. kiosk "a" (1): fee = -9223372036854775808 (2) / -1 (3).
-- "Integers are signed 64-bit", and the quotient 9223372036854775808 is one past the largest: refusal 16. "The operator for 16 and 17": the
-- place is the operator's field.
-- Kills: a quotient that wraps to the least integer (accepted).
unfoldable pub row7 : Row
row7 = record {
  manifest =
      1 ∷ 0 ∷ 18 ∷ 2 ∷ 0 ∷ 1 ∷ 97 ∷ 2 ∷ 0 ∷ 3 ∷ 102 ∷ 101 ∷ 101 ∷ 2 ∷ 0 ∷ 5 ∷ 107 ∷ 105 ∷ 111 ∷ 115 ∷ 107 ∷
      37 ∷ 0 ∷ 41 ∷ 0 ∷ 2 ∷ 17 ∷ 0 ∷ 3 ∷ 1 ∷ 0 ∷ 0 ∷
      38 ∷ 0 ∷ 30 ∷ 0 ∷ 1 ∷ 22 ∷ 0 ∷ 25 ∷ 2 ∷ 16 ∷ 0 ∷ 9 ∷ 2 ∷ 128 ∷ 0 ∷ 0 ∷ 0 ∷ 0 ∷ 0 ∷ 0 ∷ 0 ∷
      16 ∷ 0 ∷ 9 ∷ 3 ∷ 255 ∷ 255 ∷ 255 ∷ 255 ∷ 255 ∷ 255 ∷ 255 ∷ 255 ∷ [];
  device = 100 ∷ 101 ∷ 115 ∷ 107 ∷ [];
  limit = 65535;
  output = 200;
  memory = 65536;
  expected = refused 16 37;
}

-- * 8. kiosk "a" (1): fee = 0 (2) / 0 (3).
-- Refusal 17, "the divisor is zero", whatever is divided. "The operator for 16 and 17": the place is the operator's field.
-- Kills: 0 / 0 taken as 0 or as 1 (accepted).
unfoldable pub row8 : Row
row8 = record {
  manifest =
      1 ∷ 0 ∷ 18 ∷ 2 ∷ 0 ∷ 1 ∷ 97 ∷ 2 ∷ 0 ∷ 3 ∷ 102 ∷ 101 ∷ 101 ∷ 2 ∷ 0 ∷ 5 ∷ 107 ∷ 105 ∷ 111 ∷ 115 ∷ 107 ∷
      37 ∷ 0 ∷ 41 ∷ 0 ∷ 2 ∷ 17 ∷ 0 ∷ 3 ∷ 1 ∷ 0 ∷ 0 ∷
      38 ∷ 0 ∷ 30 ∷ 0 ∷ 1 ∷ 22 ∷ 0 ∷ 25 ∷ 2 ∷ 16 ∷ 0 ∷ 9 ∷ 2 ∷ 0 ∷ 0 ∷ 0 ∷ 0 ∷ 0 ∷ 0 ∷ 0 ∷ 0 ∷ 16 ∷ 0 ∷ 9 ∷ 3 ∷ 0 ∷ 0 ∷ 0 ∷ 0 ∷ 0 ∷ 0 ∷ 0 ∷ 0 ∷ [];
  device = 100 ∷ 101 ∷ 115 ∷ 107 ∷ [];
  limit = 65535;
  output = 200;
  memory = 65536;
  expected = refused 17 37;
}

-- * 9. kiosk "a" (1): fee = 9223372036854775807 (2) + 1 (3).
-- The sum is one past the largest signed 64-bit integer: refusal 16, "the result is outside 64 bits", at the operator's field.
-- Kills: a sum that wraps to the least integer (accepted).
unfoldable pub row9 : Row
row9 = record {
  manifest =
      1 ∷ 0 ∷ 18 ∷ 2 ∷ 0 ∷ 1 ∷ 97 ∷ 2 ∷ 0 ∷ 3 ∷ 102 ∷ 101 ∷ 101 ∷ 2 ∷ 0 ∷ 5 ∷ 107 ∷ 105 ∷ 111 ∷ 115 ∷ 107 ∷
      37 ∷ 0 ∷ 41 ∷ 0 ∷ 2 ∷ 17 ∷ 0 ∷ 3 ∷ 1 ∷ 0 ∷ 0 ∷
      38 ∷ 0 ∷ 30 ∷ 0 ∷ 1 ∷ 22 ∷ 0 ∷ 25 ∷ 0 ∷ 16 ∷ 0 ∷ 9 ∷ 2 ∷ 127 ∷ 255 ∷ 255 ∷ 255 ∷ 255 ∷ 255 ∷ 255 ∷ 255 ∷
      16 ∷ 0 ∷ 9 ∷ 3 ∷ 0 ∷ 0 ∷ 0 ∷ 0 ∷ 0 ∷ 0 ∷ 0 ∷ 1 ∷ [];
  device = 100 ∷ 101 ∷ 115 ∷ 107 ∷ [];
  limit = 65535;
  output = 200;
  memory = 65536;
  expected = refused 16 37;
}

-- * 10. kiosk "a" (1): fee = false (2) and (1 (3) / 0 (4) = 1 (5)).
-- "'and' and 'or' skip the right side when the left decides": the division by zero is never met. "An operator's is the union over operands
-- evaluated": {2} alone, with the resource's {1}. So fee false has 1,2.
-- Kills: "and" not skipping (17); a title's labels missing in its attributes (fee loses 1).
unfoldable pub row10 : Row
row10 = record {
  manifest =
      1 ∷ 0 ∷ 18 ∷ 2 ∷ 0 ∷ 1 ∷ 97 ∷ 2 ∷ 0 ∷ 3 ∷ 102 ∷ 101 ∷ 101 ∷ 2 ∷ 0 ∷ 5 ∷ 107 ∷ 105 ∷ 111 ∷ 115 ∷ 107 ∷
      37 ∷ 0 ∷ 66 ∷ 0 ∷ 2 ∷ 17 ∷ 0 ∷ 3 ∷ 1 ∷ 0 ∷ 0 ∷
      38 ∷ 0 ∷ 55 ∷ 0 ∷ 1 ∷ 22 ∷ 0 ∷ 50 ∷ 5 ∷ 18 ∷ 0 ∷ 2 ∷ 2 ∷ 0 ∷ 22 ∷ 0 ∷ 41 ∷ 4 ∷ 22 ∷ 0 ∷ 25 ∷ 2 ∷
      16 ∷ 0 ∷ 9 ∷ 3 ∷ 0 ∷ 0 ∷ 0 ∷ 0 ∷ 0 ∷ 0 ∷ 0 ∷ 1 ∷ 16 ∷ 0 ∷ 9 ∷ 4 ∷ 0 ∷ 0 ∷ 0 ∷ 0 ∷ 0 ∷ 0 ∷ 0 ∷ 0 ∷
      16 ∷ 0 ∷ 9 ∷ 5 ∷ 0 ∷ 0 ∷ 0 ∷ 0 ∷ 0 ∷ 0 ∷ 0 ∷ 1 ∷ [];
  device = 100 ∷ 101 ∷ 115 ∷ 107 ∷ [];
  limit = 65535;
  output = 200;
  memory = 65536;
  expected = accepted 1 (
      64 ∷ 0 ∷ 77 ∷ 0 ∷ 2 ∷ 0 ∷ 0 ∷
      2 ∷ 0 ∷ 0 ∷ 0 ∷ 0 ∷ 0 ∷ 0 ∷ 0 ∷ 0 ∷ 0 ∷ 0 ∷ 0 ∷ 0 ∷ 0 ∷ 0 ∷ 0 ∷ 0 ∷ 0 ∷ 0 ∷ 0 ∷ 0 ∷ 0 ∷ 0 ∷ 0 ∷ 0 ∷ 0 ∷ 0 ∷ 0 ∷ 0 ∷ 0 ∷ 0 ∷ 0 ∷
      65 ∷ 0 ∷ 38 ∷ 0 ∷ 1 ∷
      6 ∷ 0 ∷ 0 ∷ 0 ∷ 0 ∷ 0 ∷ 0 ∷ 0 ∷ 0 ∷ 0 ∷ 0 ∷ 0 ∷ 0 ∷ 0 ∷ 0 ∷ 0 ∷ 0 ∷ 0 ∷ 0 ∷ 0 ∷ 0 ∷ 0 ∷ 0 ∷ 0 ∷ 0 ∷ 0 ∷ 0 ∷ 0 ∷ 0 ∷ 0 ∷ 0 ∷ 0 ∷
      68 ∷ 0 ∷ 1 ∷ 0 ∷ []);
}

-- * 11. if true (1) {kiosk "a" (2)} {kiosk "b" (3)}; kiosk "b" (4): fee = 5 (5).
-- "If any branch holds a 27, 28 or 29 at any depth, it joins the trail": neither branch does, so the trail stays empty, and after the if the
-- path is empty again. kiosk "a" has its path and title, 1,2; kiosk "b" has 4 and its fee 4,5, without 1. Steps: 22, 25, 25.
-- Kills: a built-in resource counted for the trail, or the path kept after the if ("b" gains 1); a title's labels missing in its attributes.
unfoldable pub row11 : Row
row11 = record {
  manifest =
      1 ∷ 0 ∷ 22 ∷ 2 ∷ 0 ∷ 1 ∷ 97 ∷ 2 ∷ 0 ∷ 1 ∷ 98 ∷ 2 ∷ 0 ∷ 3 ∷ 102 ∷ 101 ∷ 101 ∷ 2 ∷ 0 ∷ 5 ∷ 107 ∷ 105 ∷ 111 ∷ 115 ∷ 107 ∷
      34 ∷ 0 ∷ 33 ∷ 18 ∷ 0 ∷ 2 ∷ 1 ∷ 1 ∷ 32 ∷ 0 ∷ 11 ∷
      37 ∷ 0 ∷ 8 ∷ 0 ∷ 3 ∷ 17 ∷ 0 ∷ 3 ∷ 2 ∷ 0 ∷ 0 ∷ 32 ∷ 0 ∷ 11 ∷
      37 ∷ 0 ∷ 8 ∷ 0 ∷ 3 ∷ 17 ∷ 0 ∷ 3 ∷ 3 ∷ 0 ∷ 1 ∷
      37 ∷ 0 ∷ 25 ∷ 0 ∷ 3 ∷ 17 ∷ 0 ∷ 3 ∷ 4 ∷ 0 ∷ 1 ∷
      38 ∷ 0 ∷ 14 ∷ 0 ∷ 2 ∷ 16 ∷ 0 ∷ 9 ∷ 5 ∷ 0 ∷ 0 ∷ 0 ∷ 0 ∷ 0 ∷ 0 ∷ 0 ∷ 5 ∷ [];
  device = 100 ∷ 101 ∷ 115 ∷ 107 ∷ [];
  limit = 65535;
  output = 200;
  memory = 65536;
  expected = accepted 3 (
      64 ∷ 0 ∷ 36 ∷ 0 ∷ 3 ∷ 0 ∷ 0 ∷
      6 ∷ 0 ∷ 0 ∷ 0 ∷ 0 ∷ 0 ∷ 0 ∷ 0 ∷ 0 ∷ 0 ∷ 0 ∷ 0 ∷ 0 ∷ 0 ∷ 0 ∷ 0 ∷ 0 ∷ 0 ∷ 0 ∷ 0 ∷ 0 ∷ 0 ∷ 0 ∷ 0 ∷ 0 ∷ 0 ∷ 0 ∷ 0 ∷ 0 ∷ 0 ∷ 0 ∷ 0 ∷
      64 ∷ 0 ∷ 84 ∷ 0 ∷ 3 ∷ 0 ∷ 1 ∷
      16 ∷ 0 ∷ 0 ∷ 0 ∷ 0 ∷ 0 ∷ 0 ∷ 0 ∷ 0 ∷ 0 ∷ 0 ∷ 0 ∷ 0 ∷ 0 ∷ 0 ∷ 0 ∷ 0 ∷ 0 ∷ 0 ∷ 0 ∷ 0 ∷ 0 ∷ 0 ∷ 0 ∷ 0 ∷ 0 ∷ 0 ∷ 0 ∷ 0 ∷ 0 ∷ 0 ∷ 0 ∷
      65 ∷ 0 ∷ 45 ∷ 0 ∷ 2 ∷
      48 ∷ 0 ∷ 0 ∷ 0 ∷ 0 ∷ 0 ∷ 0 ∷ 0 ∷ 0 ∷ 0 ∷ 0 ∷ 0 ∷ 0 ∷ 0 ∷ 0 ∷ 0 ∷ 0 ∷ 0 ∷ 0 ∷ 0 ∷ 0 ∷ 0 ∷ 0 ∷ 0 ∷ 0 ∷ 0 ∷ 0 ∷ 0 ∷ 0 ∷ 0 ∷ 0 ∷ 0 ∷
      66 ∷ 0 ∷ 8 ∷ 0 ∷ 0 ∷ 0 ∷ 0 ∷ 0 ∷ 0 ∷ 0 ∷ 5 ∷ []);
}

-- * 12. class k {}; if true (1) {include k} {}; if false (2) {include k} {}; kiosk "a" (3): fee = 5 (4).
-- "If any branch holds a 27, 28 or 29 at any depth, it joins the trail", taken (1) or passed over (2), and a resource's title and an
-- attribute's value are stored with path and trail. So kiosk "a" has 1,2,3 and its fee 1,2,3,4. Steps: 22, 29, 22, 25.
-- Kills: marking only branches taken, as to the trail (2 is lost); an include left out of the trail; a title's labels missing in its attributes.
unfoldable pub row12 : Row
row12 = record {
  manifest =
      1 ∷ 0 ∷ 22 ∷ 2 ∷ 0 ∷ 1 ∷ 97 ∷ 2 ∷ 0 ∷ 3 ∷ 102 ∷ 101 ∷ 101 ∷ 2 ∷ 0 ∷ 1 ∷ 107 ∷ 2 ∷ 0 ∷ 5 ∷ 107 ∷ 105 ∷ 111 ∷ 115 ∷ 107 ∷
      52 ∷ 0 ∷ 5 ∷ 0 ∷ 2 ∷ 32 ∷ 0 ∷ 0 ∷
      34 ∷ 0 ∷ 16 ∷ 18 ∷ 0 ∷ 2 ∷ 1 ∷ 1 ∷ 32 ∷ 0 ∷ 5 ∷
      41 ∷ 0 ∷ 2 ∷ 0 ∷ 2 ∷ 32 ∷ 0 ∷ 0 ∷
      34 ∷ 0 ∷ 16 ∷ 18 ∷ 0 ∷ 2 ∷ 2 ∷ 0 ∷ 32 ∷ 0 ∷ 5 ∷
      41 ∷ 0 ∷ 2 ∷ 0 ∷ 2 ∷ 32 ∷ 0 ∷ 0 ∷
      37 ∷ 0 ∷ 25 ∷ 0 ∷ 3 ∷ 17 ∷ 0 ∷ 3 ∷ 3 ∷ 0 ∷ 0 ∷
      38 ∷ 0 ∷ 14 ∷ 0 ∷ 1 ∷ 16 ∷ 0 ∷ 9 ∷ 4 ∷ 0 ∷ 0 ∷ 0 ∷ 0 ∷ 0 ∷ 0 ∷ 0 ∷ 5 ∷ [];
  device = 100 ∷ 101 ∷ 115 ∷ 107 ∷ [];
  limit = 65535;
  output = 200;
  memory = 65536;
  expected = accepted 4 (
      64 ∷ 0 ∷ 84 ∷ 0 ∷ 3 ∷ 0 ∷ 0 ∷
      14 ∷ 0 ∷ 0 ∷ 0 ∷ 0 ∷ 0 ∷ 0 ∷ 0 ∷ 0 ∷ 0 ∷ 0 ∷ 0 ∷ 0 ∷ 0 ∷ 0 ∷ 0 ∷ 0 ∷ 0 ∷ 0 ∷ 0 ∷ 0 ∷ 0 ∷ 0 ∷ 0 ∷ 0 ∷ 0 ∷ 0 ∷ 0 ∷ 0 ∷ 0 ∷ 0 ∷ 0 ∷
      65 ∷ 0 ∷ 45 ∷ 0 ∷ 1 ∷
      30 ∷ 0 ∷ 0 ∷ 0 ∷ 0 ∷ 0 ∷ 0 ∷ 0 ∷ 0 ∷ 0 ∷ 0 ∷ 0 ∷ 0 ∷ 0 ∷ 0 ∷ 0 ∷ 0 ∷ 0 ∷ 0 ∷ 0 ∷ 0 ∷ 0 ∷ 0 ∷ 0 ∷ 0 ∷ 0 ∷ 0 ∷ 0 ∷ 0 ∷ 0 ∷ 0 ∷ 0 ∷
      66 ∷ 0 ∷ 8 ∷ 0 ∷ 0 ∷ 0 ∷ 0 ∷ 0 ∷ 0 ∷ 0 ∷ 5 ∷ []);
}

-- 13. type t (n) {if n > 0 (2) {t "a" (3): n = n - 1 (4)} {kiosk "a" (5)}}; t "a" (6): n = 16 (1).
-- The first t is declared at level 0 with n = 16, each further one a level lower with n one less, the last with n = 0 at level 16, "the
-- deepest allowed"; its body runs at 17. The table lacks "title", so 3 and 6 go nowhere. The conditions add n's 1, then 4, and 2 to path and
-- trail: kiosk "a" has 1,2,4,5. Steps: 17 times 27, 17 times 22, one 25.
-- Kills: a level limit one too small (7), or set on the body instead of its declaration; a 27's title labels in its parameters (3, 6).
unfoldable pub row13 : Row
row13 = record {
  manifest =
      1 ∷ 0 ∷ 20 ∷ 2 ∷ 0 ∷ 1 ∷ 97 ∷ 2 ∷ 0 ∷ 5 ∷ 107 ∷ 105 ∷ 111 ∷ 115 ∷ 107 ∷ 2 ∷ 0 ∷ 1 ∷ 110 ∷ 2 ∷ 0 ∷ 1 ∷ 116 ∷
      50 ∷ 0 ∷ 88 ∷ 0 ∷ 3 ∷ 51 ∷ 0 ∷ 2 ∷ 0 ∷ 2 ∷ 32 ∷ 0 ∷ 78 ∷
      34 ∷ 0 ∷ 75 ∷ 22 ∷ 0 ∷ 18 ∷ 3 ∷ 19 ∷ 0 ∷ 2 ∷ 0 ∷ 2 ∷ 16 ∷ 0 ∷ 9 ∷ 2 ∷ 0 ∷ 0 ∷ 0 ∷ 0 ∷ 0 ∷ 0 ∷ 0 ∷ 0 ∷ 32 ∷ 0 ∷ 37 ∷
      39 ∷ 0 ∷ 34 ∷ 0 ∷ 3 ∷ 17 ∷ 0 ∷ 3 ∷ 3 ∷ 0 ∷ 0 ∷
      38 ∷ 0 ∷ 23 ∷ 0 ∷ 2 ∷ 22 ∷ 0 ∷ 18 ∷ 1 ∷ 19 ∷ 0 ∷ 2 ∷ 0 ∷ 2 ∷ 16 ∷ 0 ∷ 9 ∷ 4 ∷ 0 ∷ 0 ∷ 0 ∷ 0 ∷ 0 ∷ 0 ∷ 0 ∷ 1 ∷ 32 ∷ 0 ∷ 11 ∷
      37 ∷ 0 ∷ 8 ∷ 0 ∷ 1 ∷ 17 ∷ 0 ∷ 3 ∷ 5 ∷ 0 ∷ 0 ∷
      39 ∷ 0 ∷ 25 ∷ 0 ∷ 3 ∷ 17 ∷ 0 ∷ 3 ∷ 6 ∷ 0 ∷ 0 ∷
      38 ∷ 0 ∷ 14 ∷ 0 ∷ 2 ∷ 16 ∷ 0 ∷ 9 ∷ 1 ∷ 0 ∷ 0 ∷ 0 ∷ 0 ∷ 0 ∷ 0 ∷ 0 ∷ 16 ∷ [];
  device = 100 ∷ 101 ∷ 115 ∷ 107 ∷ [];
  limit = 65535;
  output = 200;
  memory = 65536;
  expected = accepted 35 (
      64 ∷ 0 ∷ 36 ∷ 0 ∷ 1 ∷ 0 ∷ 0 ∷
      54 ∷ 0 ∷ 0 ∷ 0 ∷ 0 ∷ 0 ∷ 0 ∷ 0 ∷ 0 ∷ 0 ∷ 0 ∷ 0 ∷ 0 ∷ 0 ∷ 0 ∷ 0 ∷ 0 ∷ 0 ∷ 0 ∷ 0 ∷ 0 ∷ 0 ∷ 0 ∷ 0 ∷ 0 ∷ 0 ∷ 0 ∷ 0 ∷ 0 ∷ 0 ∷ 0 ∷ 0 ∷ []);
}

-- 14. type t (n) {if n > 0 (2) {t "a" (3): n = n - 1 (4)} {kiosk "a" (5)}}; t "a" (6): n = 17 (1).
-- As row 13, one level further: where n = 1 the body runs at level 17 and its 27 "would go below level 16". The place is that 27.
-- Kills: a level limit one too large (accepted).
unfoldable pub row14 : Row
row14 = record {
  manifest =
      1 ∷ 0 ∷ 20 ∷ 2 ∷ 0 ∷ 1 ∷ 97 ∷ 2 ∷ 0 ∷ 5 ∷ 107 ∷ 105 ∷ 111 ∷ 115 ∷ 107 ∷ 2 ∷ 0 ∷ 1 ∷ 110 ∷ 2 ∷ 0 ∷ 1 ∷ 116 ∷
      50 ∷ 0 ∷ 88 ∷ 0 ∷ 3 ∷ 51 ∷ 0 ∷ 2 ∷ 0 ∷ 2 ∷ 32 ∷ 0 ∷ 78 ∷
      34 ∷ 0 ∷ 75 ∷ 22 ∷ 0 ∷ 18 ∷ 3 ∷ 19 ∷ 0 ∷ 2 ∷ 0 ∷ 2 ∷ 16 ∷ 0 ∷ 9 ∷ 2 ∷ 0 ∷ 0 ∷ 0 ∷ 0 ∷ 0 ∷ 0 ∷ 0 ∷ 0 ∷ 32 ∷ 0 ∷ 37 ∷
      39 ∷ 0 ∷ 34 ∷ 0 ∷ 3 ∷ 17 ∷ 0 ∷ 3 ∷ 3 ∷ 0 ∷ 0 ∷
      38 ∷ 0 ∷ 23 ∷ 0 ∷ 2 ∷ 22 ∷ 0 ∷ 18 ∷ 1 ∷ 19 ∷ 0 ∷ 2 ∷ 0 ∷ 2 ∷ 16 ∷ 0 ∷ 9 ∷ 4 ∷ 0 ∷ 0 ∷ 0 ∷ 0 ∷ 0 ∷ 0 ∷ 0 ∷ 1 ∷ 32 ∷ 0 ∷ 11 ∷
      37 ∷ 0 ∷ 8 ∷ 0 ∷ 1 ∷ 17 ∷ 0 ∷ 3 ∷ 5 ∷ 0 ∷ 0 ∷
      39 ∷ 0 ∷ 25 ∷ 0 ∷ 3 ∷ 17 ∷ 0 ∷ 3 ∷ 6 ∷ 0 ∷ 0 ∷
      38 ∷ 0 ∷ 14 ∷ 0 ∷ 2 ∷ 16 ∷ 0 ∷ 9 ∷ 1 ∷ 0 ∷ 0 ∷ 0 ∷ 0 ∷ 0 ∷ 0 ∷ 0 ∷ 17 ∷ [];
  device = 100 ∷ 101 ∷ 115 ∷ 107 ∷ [];
  limit = 65535;
  output = 200;
  memory = 65536;
  expected = refused 7 63;
}

-- 15. kiosk "a" (1); x = y, where y is never assigned; limit 1.
-- "A statement counts its step, evaluates its parts in written order": the 21's step passes the limit before y is read, so refusal 6 at the 21.
-- With limit 2 it would be 13 at the read (row 19). The entry of kiosk "a" was finished: the whole output is zero all the same.
-- Kills: 6 given after the statement's parts (13); a stale entry in the output of a refusal.
unfoldable pub row15 : Row
row15 = record {
  manifest =
      1 ∷ 0 ∷ 20 ∷ 2 ∷ 0 ∷ 1 ∷ 97 ∷ 2 ∷ 0 ∷ 5 ∷ 107 ∷ 105 ∷ 111 ∷ 115 ∷ 107 ∷ 2 ∷ 0 ∷ 1 ∷ 120 ∷ 2 ∷ 0 ∷ 1 ∷ 121 ∷
      37 ∷ 0 ∷ 8 ∷ 0 ∷ 1 ∷ 17 ∷ 0 ∷ 3 ∷ 1 ∷ 0 ∷ 0 ∷
      33 ∷ 0 ∷ 7 ∷ 0 ∷ 2 ∷ 19 ∷ 0 ∷ 2 ∷ 0 ∷ 3 ∷ [];
  device = 100 ∷ 101 ∷ 115 ∷ 107 ∷ [];
  limit = 1;
  output = 200;
  memory = 65536;
  expected = refused 6 34;
}

-- 16. kiosk "a" (1): fee = 5 (2) ? {"a" (3) => 10 (4), default => 20 (5), 5 (6) => 30 (7)}.
-- "A default in a case or selector is tried only after every other pattern", so the 5 behind it is tried and is equal: fee is 30. "A selector's is
-- scrutinee, patterns tried and chosen expression": 2, then 3, which is tried though of another kind, and 6, then 7. With the resource's 1 that is
-- 1,2,3,6,7.
-- Kills: default matching where it is reached (20 with 1,2,3,5); a title's labels missing in its attributes (fee loses 1).
unfoldable pub row16 : Row
row16 = record {
  manifest =
      1 ∷ 0 ∷ 18 ∷ 2 ∷ 0 ∷ 1 ∷ 97 ∷ 2 ∷ 0 ∷ 3 ∷ 102 ∷ 101 ∷ 101 ∷ 2 ∷ 0 ∷ 5 ∷ 107 ∷ 105 ∷ 111 ∷ 115 ∷ 107 ∷
      37 ∷ 0 ∷ 94 ∷ 0 ∷ 2 ∷ 17 ∷ 0 ∷ 3 ∷ 1 ∷ 0 ∷ 0 ∷
      38 ∷ 0 ∷ 83 ∷ 0 ∷ 1 ∷ 25 ∷ 0 ∷ 78 ∷ 16 ∷ 0 ∷ 9 ∷ 2 ∷ 0 ∷ 0 ∷ 0 ∷ 0 ∷ 0 ∷ 0 ∷ 0 ∷ 5 ∷ 26 ∷ 0 ∷ 18 ∷ 17 ∷ 0 ∷ 3 ∷ 3 ∷ 0 ∷ 0 ∷
      16 ∷ 0 ∷ 9 ∷ 4 ∷ 0 ∷ 0 ∷ 0 ∷ 0 ∷ 0 ∷ 0 ∷ 0 ∷ 10 ∷ 26 ∷ 0 ∷ 15 ∷ 27 ∷ 0 ∷ 0 ∷ 16 ∷ 0 ∷ 9 ∷ 5 ∷ 0 ∷ 0 ∷ 0 ∷ 0 ∷ 0 ∷ 0 ∷ 0 ∷ 20 ∷ 26 ∷ 0 ∷ 24 ∷
      16 ∷ 0 ∷ 9 ∷ 6 ∷ 0 ∷ 0 ∷ 0 ∷ 0 ∷ 0 ∷ 0 ∷ 0 ∷ 5 ∷ 16 ∷ 0 ∷ 9 ∷ 7 ∷ 0 ∷ 0 ∷ 0 ∷ 0 ∷ 0 ∷ 0 ∷ 0 ∷ 30 ∷ [];
  device = 100 ∷ 101 ∷ 115 ∷ 107 ∷ [];
  limit = 65535;
  output = 200;
  memory = 65536;
  expected = accepted 1 (
      64 ∷ 0 ∷ 84 ∷ 0 ∷ 2 ∷ 0 ∷ 0 ∷
      2 ∷ 0 ∷ 0 ∷ 0 ∷ 0 ∷ 0 ∷ 0 ∷ 0 ∷ 0 ∷ 0 ∷ 0 ∷ 0 ∷ 0 ∷ 0 ∷ 0 ∷ 0 ∷ 0 ∷ 0 ∷ 0 ∷ 0 ∷ 0 ∷ 0 ∷ 0 ∷ 0 ∷ 0 ∷ 0 ∷ 0 ∷ 0 ∷ 0 ∷ 0 ∷ 0 ∷ 0 ∷
      65 ∷ 0 ∷ 45 ∷ 0 ∷ 1 ∷
      206 ∷ 0 ∷ 0 ∷ 0 ∷ 0 ∷ 0 ∷ 0 ∷ 0 ∷ 0 ∷ 0 ∷ 0 ∷ 0 ∷ 0 ∷ 0 ∷ 0 ∷ 0 ∷ 0 ∷ 0 ∷ 0 ∷ 0 ∷ 0 ∷ 0 ∷ 0 ∷ 0 ∷ 0 ∷ 0 ∷ 0 ∷ 0 ∷ 0 ∷ 0 ∷ 0 ∷ 0 ∷
      66 ∷ 0 ∷ 8 ∷ 0 ∷ 0 ∷ 0 ∷ 0 ∷ 0 ∷ 0 ∷ 0 ∷ 30 ∷ []);
}

-- 17. case 5 (1) {7 (2): {x = 9 (3)}; 5 (4): {kiosk "a" (5)}; true (6): {}}; x = 8 (7); kiosk "b" (8): fee = x.
-- "A condition's set is its expression (for case also the patterns tried)": {1,2,4}; the 6 is not reached. It is the path of kiosk "a", which
-- has 1,2,4,5, and it joins the mark of x, assigned in a branch passed over, so the later x is read with 1,2,4 and its own 7: fee 8 has
-- 1,2,4,7,8. A cell with only a mark is no value, so x = 8 is not 14. Steps: 23, 25, 21, 25.
-- Kills: a case's tried patterns left out (2, 4); marking only branches taken (fee loses 1,2,4); a title's labels missing in its attributes.
unfoldable pub row17 : Row
row17 = record {
  manifest =
      1 ∷ 0 ∷ 26 ∷ 2 ∷ 0 ∷ 1 ∷ 97 ∷ 2 ∷ 0 ∷ 1 ∷ 98 ∷ 2 ∷ 0 ∷ 3 ∷ 102 ∷ 101 ∷ 101 ∷ 2 ∷ 0 ∷ 5 ∷ 107 ∷ 105 ∷ 111 ∷ 115 ∷ 107 ∷ 2 ∷ 0 ∷ 1 ∷ 120 ∷
      35 ∷ 0 ∷ 87 ∷ 16 ∷ 0 ∷ 9 ∷ 1 ∷ 0 ∷ 0 ∷ 0 ∷ 0 ∷ 0 ∷ 0 ∷ 0 ∷ 5 ∷
      36 ∷ 0 ∷ 32 ∷ 16 ∷ 0 ∷ 9 ∷ 2 ∷ 0 ∷ 0 ∷ 0 ∷ 0 ∷ 0 ∷ 0 ∷ 0 ∷ 7 ∷ 32 ∷ 0 ∷ 17 ∷
      33 ∷ 0 ∷ 14 ∷ 0 ∷ 4 ∷ 16 ∷ 0 ∷ 9 ∷ 3 ∷ 0 ∷ 0 ∷ 0 ∷ 0 ∷ 0 ∷ 0 ∷ 0 ∷ 9 ∷
      36 ∷ 0 ∷ 26 ∷ 16 ∷ 0 ∷ 9 ∷ 4 ∷ 0 ∷ 0 ∷ 0 ∷ 0 ∷ 0 ∷ 0 ∷ 0 ∷ 5 ∷ 32 ∷ 0 ∷ 11 ∷
      37 ∷ 0 ∷ 8 ∷ 0 ∷ 3 ∷ 17 ∷ 0 ∷ 3 ∷ 5 ∷ 0 ∷ 0 ∷
      36 ∷ 0 ∷ 8 ∷ 18 ∷ 0 ∷ 2 ∷ 6 ∷ 1 ∷ 32 ∷ 0 ∷ 0 ∷
      33 ∷ 0 ∷ 14 ∷ 0 ∷ 4 ∷ 16 ∷ 0 ∷ 9 ∷ 7 ∷ 0 ∷ 0 ∷ 0 ∷ 0 ∷ 0 ∷ 0 ∷ 0 ∷ 8 ∷
      37 ∷ 0 ∷ 18 ∷ 0 ∷ 3 ∷ 17 ∷ 0 ∷ 3 ∷ 8 ∷ 0 ∷ 1 ∷
      38 ∷ 0 ∷ 7 ∷ 0 ∷ 2 ∷ 19 ∷ 0 ∷ 2 ∷ 0 ∷ 4 ∷ [];
  device = 100 ∷ 101 ∷ 115 ∷ 107 ∷ [];
  limit = 65535;
  output = 200;
  memory = 65536;
  expected = accepted 4 (
      64 ∷ 0 ∷ 36 ∷ 0 ∷ 3 ∷ 0 ∷ 0 ∷
      54 ∷ 0 ∷ 0 ∷ 0 ∷ 0 ∷ 0 ∷ 0 ∷ 0 ∷ 0 ∷ 0 ∷ 0 ∷ 0 ∷ 0 ∷ 0 ∷ 0 ∷ 0 ∷ 0 ∷ 0 ∷ 0 ∷ 0 ∷ 0 ∷ 0 ∷ 0 ∷ 0 ∷ 0 ∷ 0 ∷ 0 ∷ 0 ∷ 0 ∷ 0 ∷ 0 ∷ 0 ∷
      64 ∷ 0 ∷ 84 ∷ 0 ∷ 3 ∷ 0 ∷ 1 ∷
      0 ∷ 1 ∷ 0 ∷ 0 ∷ 0 ∷ 0 ∷ 0 ∷ 0 ∷ 0 ∷ 0 ∷ 0 ∷ 0 ∷ 0 ∷ 0 ∷ 0 ∷ 0 ∷ 0 ∷ 0 ∷ 0 ∷ 0 ∷ 0 ∷ 0 ∷ 0 ∷ 0 ∷ 0 ∷ 0 ∷ 0 ∷ 0 ∷ 0 ∷ 0 ∷ 0 ∷ 0 ∷
      65 ∷ 0 ∷ 45 ∷ 0 ∷ 2 ∷
      150 ∷ 1 ∷ 0 ∷ 0 ∷ 0 ∷ 0 ∷ 0 ∷ 0 ∷ 0 ∷ 0 ∷ 0 ∷ 0 ∷ 0 ∷ 0 ∷ 0 ∷ 0 ∷ 0 ∷ 0 ∷ 0 ∷ 0 ∷ 0 ∷ 0 ∷ 0 ∷ 0 ∷ 0 ∷ 0 ∷ 0 ∷ 0 ∷ 0 ∷ 0 ∷ 0 ∷ 0 ∷
      66 ∷ 0 ∷ 8 ∷ 0 ∷ 0 ∷ 0 ∷ 0 ∷ 0 ∷ 0 ∷ 0 ∷ 8 ∷ []);
}

-- 18. type t {y = x}; class c {x = 8 (1); t "a" (2)}; include c.
-- "A type body's parent is its base", and the base of class c, declared at top, is top. So the read in t's body tries that body's scope and
-- top, not c, which alone has x: refusal 13 at the read of x.
-- Kills: the declarer's variables seen in a type body (accepted).
unfoldable pub row18 : Row
row18 = record {
  manifest =
      1 ∷ 0 ∷ 20 ∷ 2 ∷ 0 ∷ 1 ∷ 97 ∷ 2 ∷ 0 ∷ 1 ∷ 99 ∷ 2 ∷ 0 ∷ 1 ∷ 116 ∷ 2 ∷ 0 ∷ 1 ∷ 120 ∷ 2 ∷ 0 ∷ 1 ∷ 121 ∷
      50 ∷ 0 ∷ 15 ∷ 0 ∷ 2 ∷ 32 ∷ 0 ∷ 10 ∷
      33 ∷ 0 ∷ 7 ∷ 0 ∷ 4 ∷ 19 ∷ 0 ∷ 2 ∷ 0 ∷ 3 ∷
      52 ∷ 0 ∷ 33 ∷ 0 ∷ 1 ∷ 32 ∷ 0 ∷ 28 ∷
      33 ∷ 0 ∷ 14 ∷ 0 ∷ 3 ∷ 16 ∷ 0 ∷ 9 ∷ 1 ∷ 0 ∷ 0 ∷ 0 ∷ 0 ∷ 0 ∷ 0 ∷ 0 ∷ 8 ∷
      39 ∷ 0 ∷ 8 ∷ 0 ∷ 2 ∷ 17 ∷ 0 ∷ 3 ∷ 2 ∷ 0 ∷ 0 ∷
      41 ∷ 0 ∷ 2 ∷ 0 ∷ 1 ∷ [];
  device = 100 ∷ 101 ∷ 115 ∷ 107 ∷ [];
  limit = 65535;
  output = 200;
  memory = 65536;
  expected = refused 13 36;
}

-- 19. kiosk "a" (1); x = y, where y is never assigned (the manifest of row 15, without its limit).
-- Refusal 13, "the variable has no value in any scope tried", at the read of y. The entry of kiosk "a" was finished before: after a refusal
-- the whole output is zero.
-- Kills: a stale entry in the output of a refusal.
unfoldable pub row19 : Row
row19 = record {
  manifest =
      1 ∷ 0 ∷ 20 ∷ 2 ∷ 0 ∷ 1 ∷ 97 ∷ 2 ∷ 0 ∷ 5 ∷ 107 ∷ 105 ∷ 111 ∷ 115 ∷ 107 ∷ 2 ∷ 0 ∷ 1 ∷ 120 ∷ 2 ∷ 0 ∷ 1 ∷ 121 ∷
      37 ∷ 0 ∷ 8 ∷ 0 ∷ 1 ∷ 17 ∷ 0 ∷ 3 ∷ 1 ∷ 0 ∷ 0 ∷
      33 ∷ 0 ∷ 7 ∷ 0 ∷ 2 ∷ 19 ∷ 0 ∷ 2 ∷ 0 ∷ 3 ∷ [];
  device = 100 ∷ 101 ∷ 115 ∷ 107 ∷ [];
  limit = 65535;
  output = 200;
  memory = 65536;
  expected = refused 13 39;
}

-- 20. Document 000, 5.3.1.2: y = 1 (1); class a (x) {if x = 1 (2) {y = 42 (3)} {}; z = y}; class {a: x => 2 (4)}; w = a::z; and then
-- kiosk "a" (5): w = w.
-- The branch is passed over, yet its condition {2,4} joins the mark of y in class a, and "a read's set is the stored set and the marks of
-- every scope tried": z, and so w, is 1 with 1,2,4. The thesis loses 2 and 4. With the resource's 5, w has 1,2,4,5.
-- Steps: 21, 28, 22, 21, 21, 25.
-- Kills: marking only branches taken (w loses 2,4); a title's labels missing in its attributes (w loses 5).
unfoldable pub row20 : Row
row20 = record {
  manifest =
      1 ∷ 0 ∷ 28 ∷ 2 ∷ 0 ∷ 1 ∷ 97 ∷ 2 ∷ 0 ∷ 5 ∷ 107 ∷ 105 ∷ 111 ∷ 115 ∷ 107 ∷ 2 ∷ 0 ∷ 1 ∷ 119 ∷ 2 ∷ 0 ∷ 1 ∷ 120 ∷ 2 ∷ 0 ∷ 1 ∷ 121 ∷
      2 ∷ 0 ∷ 1 ∷ 122 ∷
      33 ∷ 0 ∷ 14 ∷ 0 ∷ 4 ∷ 16 ∷ 0 ∷ 9 ∷ 1 ∷ 0 ∷ 0 ∷ 0 ∷ 0 ∷ 0 ∷ 0 ∷ 0 ∷ 1 ∷
      52 ∷ 0 ∷ 67 ∷ 0 ∷ 0 ∷ 51 ∷ 0 ∷ 2 ∷ 0 ∷ 3 ∷ 32 ∷ 0 ∷ 57 ∷
      34 ∷ 0 ∷ 44 ∷ 22 ∷ 0 ∷ 18 ∷ 4 ∷ 19 ∷ 0 ∷ 2 ∷ 0 ∷ 3 ∷ 16 ∷ 0 ∷ 9 ∷ 2 ∷ 0 ∷ 0 ∷ 0 ∷ 0 ∷ 0 ∷ 0 ∷ 0 ∷ 1 ∷ 32 ∷ 0 ∷ 17 ∷
      33 ∷ 0 ∷ 14 ∷ 0 ∷ 4 ∷ 16 ∷ 0 ∷ 9 ∷ 3 ∷ 0 ∷ 0 ∷ 0 ∷ 0 ∷ 0 ∷ 0 ∷ 0 ∷ 42 ∷ 32 ∷ 0 ∷ 0 ∷
      33 ∷ 0 ∷ 7 ∷ 0 ∷ 5 ∷ 19 ∷ 0 ∷ 2 ∷ 0 ∷ 4 ∷
      40 ∷ 0 ∷ 19 ∷ 0 ∷ 0 ∷
      38 ∷ 0 ∷ 14 ∷ 0 ∷ 3 ∷ 16 ∷ 0 ∷ 9 ∷ 4 ∷ 0 ∷ 0 ∷ 0 ∷ 0 ∷ 0 ∷ 0 ∷ 0 ∷ 2 ∷
      33 ∷ 0 ∷ 9 ∷ 0 ∷ 2 ∷ 21 ∷ 0 ∷ 4 ∷ 0 ∷ 0 ∷ 0 ∷ 5 ∷
      37 ∷ 0 ∷ 18 ∷ 0 ∷ 1 ∷ 17 ∷ 0 ∷ 3 ∷ 5 ∷ 0 ∷ 0 ∷
      38 ∷ 0 ∷ 7 ∷ 0 ∷ 2 ∷ 19 ∷ 0 ∷ 2 ∷ 0 ∷ 2 ∷ [];
  device = 100 ∷ 101 ∷ 115 ∷ 107 ∷ [];
  limit = 65535;
  output = 200;
  memory = 65536;
  expected = accepted 6 (
      64 ∷ 0 ∷ 84 ∷ 0 ∷ 1 ∷ 0 ∷ 0 ∷
      32 ∷ 0 ∷ 0 ∷ 0 ∷ 0 ∷ 0 ∷ 0 ∷ 0 ∷ 0 ∷ 0 ∷ 0 ∷ 0 ∷ 0 ∷ 0 ∷ 0 ∷ 0 ∷ 0 ∷ 0 ∷ 0 ∷ 0 ∷ 0 ∷ 0 ∷ 0 ∷ 0 ∷ 0 ∷ 0 ∷ 0 ∷ 0 ∷ 0 ∷ 0 ∷ 0 ∷ 0 ∷
      65 ∷ 0 ∷ 45 ∷ 0 ∷ 2 ∷
      54 ∷ 0 ∷ 0 ∷ 0 ∷ 0 ∷ 0 ∷ 0 ∷ 0 ∷ 0 ∷ 0 ∷ 0 ∷ 0 ∷ 0 ∷ 0 ∷ 0 ∷ 0 ∷ 0 ∷ 0 ∷ 0 ∷ 0 ∷ 0 ∷ 0 ∷ 0 ∷ 0 ∷ 0 ∷ 0 ∷ 0 ∷ 0 ∷ 0 ∷ 0 ∷ 0 ∷ 0 ∷
      66 ∷ 0 ∷ 8 ∷ 0 ∷ 0 ∷ 0 ∷ 0 ∷ 0 ∷ 0 ∷ 0 ∷ 1 ∷ []);
}

-- 21. kiosk "a" (1); kiosk "a" (2).
-- Refusal 20, "type and title are already in the catalog", at the second 25. The first entry was finished: the whole output is zero all the
-- same.
-- Kills: a stale entry in the output of a refusal.
unfoldable pub row21 : Row
row21 = record {
  manifest =
      1 ∷ 0 ∷ 12 ∷ 2 ∷ 0 ∷ 1 ∷ 97 ∷ 2 ∷ 0 ∷ 5 ∷ 107 ∷ 105 ∷ 111 ∷ 115 ∷ 107 ∷
      37 ∷ 0 ∷ 8 ∷ 0 ∷ 1 ∷ 17 ∷ 0 ∷ 3 ∷ 1 ∷ 0 ∷ 0 ∷
      37 ∷ 0 ∷ 8 ∷ 0 ∷ 1 ∷ 17 ∷ 0 ∷ 3 ∷ 2 ∷ 0 ∷ 0 ∷ [];
  device = 100 ∷ 101 ∷ 115 ∷ 107 ∷ [];
  limit = 65535;
  output = 200;
  memory = 65536;
  expected = refused 20 26;
}

-- 22. kiosk "a" (1): fee = false (2), fee = true (3).
-- Refusal 21, "an attribute is named twice in one body"; "the 26 for 11 and 21 (the later one)": the second 26.
-- Kills: giving the earlier 26, or the 25.
unfoldable pub row22 : Row
row22 = record {
  manifest =
      1 ∷ 0 ∷ 18 ∷ 2 ∷ 0 ∷ 1 ∷ 97 ∷ 2 ∷ 0 ∷ 3 ∷ 102 ∷ 101 ∷ 101 ∷ 2 ∷ 0 ∷ 5 ∷ 107 ∷ 105 ∷ 111 ∷ 115 ∷ 107 ∷
      37 ∷ 0 ∷ 28 ∷ 0 ∷ 2 ∷ 17 ∷ 0 ∷ 3 ∷ 1 ∷ 0 ∷ 0 ∷
      38 ∷ 0 ∷ 7 ∷ 0 ∷ 1 ∷ 18 ∷ 0 ∷ 2 ∷ 2 ∷ 0 ∷
      38 ∷ 0 ∷ 7 ∷ 0 ∷ 1 ∷ 18 ∷ 0 ∷ 2 ∷ 3 ∷ 1 ∷ [];
  device = 100 ∷ 101 ∷ 115 ∷ 107 ∷ [];
  limit = 65535;
  output = 200;
  memory = 65536;
  expected = refused 21 42;
}

-- 23. kiosk "a" (1), with 38 bytes of output.
-- Its entry has 3 + 2 + 2 + 32 = 39 bytes: refusal 23, "the finished entry passes the output's end", at the 25, and the 38 bytes are zero.
-- Kills: an output bound one too large; a stale, cut entry in the output of a refusal.
unfoldable pub row23 : Row
row23 = record {
  manifest =
      1 ∷ 0 ∷ 12 ∷ 2 ∷ 0 ∷ 1 ∷ 97 ∷ 2 ∷ 0 ∷ 5 ∷ 107 ∷ 105 ∷ 111 ∷ 115 ∷ 107 ∷
      37 ∷ 0 ∷ 8 ∷ 0 ∷ 1 ∷ 17 ∷ 0 ∷ 3 ∷ 1 ∷ 0 ∷ 0 ∷ [];
  device = 100 ∷ 101 ∷ 115 ∷ 107 ∷ [];
  limit = 65535;
  output = 38;
  memory = 65536;
  expected = refused 23 15;
}

-- 24. kiosk "a" (1), with 39 bytes of output.
-- Its entry of 39 bytes ends at the output's end and does not pass it: accepted, with label 1. One step.
-- Kills: an output bound one too small (23).
unfoldable pub row24 : Row
row24 = record {
  manifest =
      1 ∷ 0 ∷ 12 ∷ 2 ∷ 0 ∷ 1 ∷ 97 ∷ 2 ∷ 0 ∷ 5 ∷ 107 ∷ 105 ∷ 111 ∷ 115 ∷ 107 ∷
      37 ∷ 0 ∷ 8 ∷ 0 ∷ 1 ∷ 17 ∷ 0 ∷ 3 ∷ 1 ∷ 0 ∷ 0 ∷ [];
  device = 100 ∷ 101 ∷ 115 ∷ 107 ∷ [];
  limit = 65535;
  output = 39;
  memory = 65536;
  expected = accepted 1 (
      64 ∷ 0 ∷ 36 ∷ 0 ∷ 1 ∷ 0 ∷ 0 ∷
      2 ∷ 0 ∷ 0 ∷ 0 ∷ 0 ∷ 0 ∷ 0 ∷ 0 ∷ 0 ∷ 0 ∷ 0 ∷ 0 ∷ 0 ∷ 0 ∷ 0 ∷ 0 ∷ 0 ∷ 0 ∷ 0 ∷ 0 ∷ 0 ∷ 0 ∷ 0 ∷ 0 ∷ 0 ∷ 0 ∷ 0 ∷ 0 ∷ 0 ∷ 0 ∷ 0 ∷ 0 ∷ []);
}

-- 25. The empty manifest, with a working memory of 65,535 bytes.
-- Both 1 and 2 hold, and 1 is checked first: "the working memory is shorter than 65,536 bytes". "0 where the manifest has none, as for 1
-- and 2": the place is 0.
-- Kills: a memory bound one too small, and 2 sought before 1 (both give 2).
unfoldable pub row25 : Row
row25 = record {
  manifest = [];
  device = 100 ∷ 101 ∷ 115 ∷ 107 ∷ [];
  limit = 65535;
  output = 200;
  memory = 65535;
  expected = refused 1 0;
}

-- 26. The empty manifest, with a working memory of 65,536 bytes.
-- Refusal 2, "the manifest's length is outside 1 to 65,535", at 0.
-- Kills: a memory bound one too large (1).
unfoldable pub row26 : Row
row26 = record {
  manifest = [];
  device = 100 ∷ 101 ∷ 115 ∷ 107 ∷ [];
  limit = 65535;
  output = 200;
  memory = 65536;
  expected = refused 2 0;
}

-- 27. x = 1 (1); node default: case 7 (2) {8 (3): {x = 5 (4)}}; kiosk "k" (5): a = x.
-- "A case without a match does nothing", and its set, 2 and the pattern tried, 3, all the same joins the mark in node of the name that its branch
-- assigns. x is read from top, {1}, past node's mark, {2,3}. So a = 1 has 1,2,3,5 and the kiosk 5. Steps: 21, 23, 25.
-- Kills: a case without a match joining nothing (a loses 2 and 3).
unfoldable pub row27 : Row
row27 = record {
  manifest =
      1 ∷ 0 ∷ 20 ∷ 2 ∷ 0 ∷ 1 ∷ 97 ∷ 2 ∷ 0 ∷ 1 ∷ 107 ∷ 2 ∷ 0 ∷ 5 ∷ 107 ∷ 105 ∷ 111 ∷ 115 ∷ 107 ∷ 2 ∷ 0 ∷ 1 ∷ 120 ∷
      33 ∷ 0 ∷ 14 ∷ 0 ∷ 3 ∷ 16 ∷ 0 ∷ 9 ∷ 1 ∷ 0 ∷ 0 ∷ 0 ∷ 0 ∷ 0 ∷ 0 ∷ 0 ∷ 1 ∷
      48 ∷ 0 ∷ 77 ∷ 27 ∷ 0 ∷ 0 ∷ 32 ∷ 0 ∷ 71 ∷
      35 ∷ 0 ∷ 47 ∷ 16 ∷ 0 ∷ 9 ∷ 2 ∷ 0 ∷ 0 ∷ 0 ∷ 0 ∷ 0 ∷ 0 ∷ 0 ∷ 7 ∷
      36 ∷ 0 ∷ 32 ∷ 16 ∷ 0 ∷ 9 ∷ 3 ∷ 0 ∷ 0 ∷ 0 ∷ 0 ∷ 0 ∷ 0 ∷ 0 ∷ 8 ∷ 32 ∷ 0 ∷ 17 ∷
      33 ∷ 0 ∷ 14 ∷ 0 ∷ 3 ∷ 16 ∷ 0 ∷ 9 ∷ 4 ∷ 0 ∷ 0 ∷ 0 ∷ 0 ∷ 0 ∷ 0 ∷ 0 ∷ 5 ∷
      37 ∷ 0 ∷ 18 ∷ 0 ∷ 2 ∷ 17 ∷ 0 ∷ 3 ∷ 5 ∷ 0 ∷ 1 ∷
      38 ∷ 0 ∷ 7 ∷ 0 ∷ 0 ∷ 19 ∷ 0 ∷ 2 ∷ 0 ∷ 3 ∷ [];
  device = 100 ∷ 101 ∷ 115 ∷ 107 ∷ [];
  limit = 65535;
  output = 300;
  memory = 65536;
  expected = accepted 3 (
      64 ∷ 0 ∷ 84 ∷ 0 ∷ 2 ∷ 0 ∷ 1 ∷
      32 ∷ 0 ∷ 0 ∷ 0 ∷ 0 ∷ 0 ∷ 0 ∷ 0 ∷ 0 ∷ 0 ∷ 0 ∷ 0 ∷ 0 ∷ 0 ∷ 0 ∷ 0 ∷ 0 ∷ 0 ∷ 0 ∷ 0 ∷ 0 ∷ 0 ∷ 0 ∷ 0 ∷ 0 ∷ 0 ∷ 0 ∷ 0 ∷ 0 ∷ 0 ∷ 0 ∷ 0 ∷
      65 ∷ 0 ∷ 45 ∷ 0 ∷ 0 ∷
      46 ∷ 0 ∷ 0 ∷ 0 ∷ 0 ∷ 0 ∷ 0 ∷ 0 ∷ 0 ∷ 0 ∷ 0 ∷ 0 ∷ 0 ∷ 0 ∷ 0 ∷ 0 ∷ 0 ∷ 0 ∷ 0 ∷ 0 ∷ 0 ∷ 0 ∷ 0 ∷ 0 ∷ 0 ∷ 0 ∷ 0 ∷ 0 ∷ 0 ∷ 0 ∷ 0 ∷ 0 ∷
      66 ∷ 0 ∷ 8 ∷ 0 ∷ 0 ∷ 0 ∷ 0 ∷ 0 ∷ 0 ∷ 0 ∷ 1 ∷ []);
}

-- 28. kiosk "a" (1): f = 5 (2); kiosk "c" (3): f = kiosk["a" (4)] f.
-- An attribute that is read is given with its set, {1,2}, and the title's, {4}; the resource's, {3}, is in every attribute's. So f of kiosk "c"
-- is 5 with 1,2,3,4. Steps: 25, 25.
-- Kills: an attribute read that leaves out its title's labels (f of "c" loses 4).
unfoldable pub row28 : Row
row28 = record {
  manifest =
      1 ∷ 0 ∷ 20 ∷ 2 ∷ 0 ∷ 1 ∷ 97 ∷ 2 ∷ 0 ∷ 1 ∷ 99 ∷ 2 ∷ 0 ∷ 1 ∷ 102 ∷ 2 ∷ 0 ∷ 5 ∷ 107 ∷ 105 ∷ 111 ∷ 115 ∷ 107 ∷
      37 ∷ 0 ∷ 25 ∷ 0 ∷ 3 ∷ 17 ∷ 0 ∷ 3 ∷ 1 ∷ 0 ∷ 0 ∷
      38 ∷ 0 ∷ 14 ∷ 0 ∷ 2 ∷ 16 ∷ 0 ∷ 9 ∷ 2 ∷ 0 ∷ 0 ∷ 0 ∷ 0 ∷ 0 ∷ 0 ∷ 0 ∷ 5 ∷
      37 ∷ 0 ∷ 26 ∷ 0 ∷ 3 ∷ 17 ∷ 0 ∷ 3 ∷ 3 ∷ 0 ∷ 1 ∷
      38 ∷ 0 ∷ 15 ∷ 0 ∷ 2 ∷ 24 ∷ 0 ∷ 10 ∷ 0 ∷ 3 ∷ 0 ∷ 2 ∷ 17 ∷ 0 ∷ 3 ∷ 4 ∷ 0 ∷ 0 ∷ [];
  device = 100 ∷ 101 ∷ 115 ∷ 107 ∷ [];
  limit = 65535;
  output = 300;
  memory = 65536;
  expected = accepted 2 (
      64 ∷ 0 ∷ 84 ∷ 0 ∷ 3 ∷ 0 ∷ 0 ∷
      2 ∷ 0 ∷ 0 ∷ 0 ∷ 0 ∷ 0 ∷ 0 ∷ 0 ∷ 0 ∷ 0 ∷ 0 ∷ 0 ∷ 0 ∷ 0 ∷ 0 ∷ 0 ∷ 0 ∷ 0 ∷ 0 ∷ 0 ∷ 0 ∷ 0 ∷ 0 ∷ 0 ∷ 0 ∷ 0 ∷ 0 ∷ 0 ∷ 0 ∷ 0 ∷ 0 ∷ 0 ∷
      65 ∷ 0 ∷ 45 ∷ 0 ∷ 2 ∷
      6 ∷ 0 ∷ 0 ∷ 0 ∷ 0 ∷ 0 ∷ 0 ∷ 0 ∷ 0 ∷ 0 ∷ 0 ∷ 0 ∷ 0 ∷ 0 ∷ 0 ∷ 0 ∷ 0 ∷ 0 ∷ 0 ∷ 0 ∷ 0 ∷ 0 ∷ 0 ∷ 0 ∷ 0 ∷ 0 ∷ 0 ∷ 0 ∷ 0 ∷ 0 ∷ 0 ∷ 0 ∷
      66 ∷ 0 ∷ 8 ∷ 0 ∷ 0 ∷ 0 ∷ 0 ∷ 0 ∷ 0 ∷ 0 ∷ 5 ∷
      64 ∷ 0 ∷ 84 ∷ 0 ∷ 3 ∷ 0 ∷ 1 ∷
      8 ∷ 0 ∷ 0 ∷ 0 ∷ 0 ∷ 0 ∷ 0 ∷ 0 ∷ 0 ∷ 0 ∷ 0 ∷ 0 ∷ 0 ∷ 0 ∷ 0 ∷ 0 ∷ 0 ∷ 0 ∷ 0 ∷ 0 ∷ 0 ∷ 0 ∷ 0 ∷ 0 ∷ 0 ∷ 0 ∷ 0 ∷ 0 ∷ 0 ∷ 0 ∷ 0 ∷ 0 ∷
      65 ∷ 0 ∷ 45 ∷ 0 ∷ 2 ∷
      30 ∷ 0 ∷ 0 ∷ 0 ∷ 0 ∷ 0 ∷ 0 ∷ 0 ∷ 0 ∷ 0 ∷ 0 ∷ 0 ∷ 0 ∷ 0 ∷ 0 ∷ 0 ∷ 0 ∷ 0 ∷ 0 ∷ 0 ∷ 0 ∷ 0 ∷ 0 ∷ 0 ∷ 0 ∷ 0 ∷ 0 ∷ 0 ∷ 0 ∷ 0 ∷ 0 ∷ 0 ∷
      66 ∷ 0 ∷ 8 ∷ 0 ∷ 0 ∷ 0 ∷ 0 ∷ 0 ∷ 0 ∷ 0 ∷ 5 ∷ []);
}

-- 29. kiosk "a" (1): fee = 5 (2) ? {default => 20 (3), 7 (4) => 10 (5)}.
-- "A default in a case or selector is tried only after every other pattern": the 7 behind it is tried first and is not equal, so fee is 20. When the
-- default is chosen, every constant was tried. The set is the scrutinee's 2, the pattern's 4, the chosen 3 and the resource's 1.
-- Kills: default matching where it is reached (fee loses 4); a default that adds only the patterns written before it (the same).
unfoldable pub row29 : Row
row29 = record {
  manifest =
      1 ∷ 0 ∷ 18 ∷ 2 ∷ 0 ∷ 1 ∷ 97 ∷ 2 ∷ 0 ∷ 3 ∷ 102 ∷ 101 ∷ 101 ∷ 2 ∷ 0 ∷ 5 ∷ 107 ∷ 105 ∷ 111 ∷ 115 ∷ 107 ∷
      37 ∷ 0 ∷ 73 ∷ 0 ∷ 2 ∷ 17 ∷ 0 ∷ 3 ∷ 1 ∷ 0 ∷ 0 ∷
      38 ∷ 0 ∷ 62 ∷ 0 ∷ 1 ∷ 25 ∷ 0 ∷ 57 ∷ 16 ∷ 0 ∷ 9 ∷ 2 ∷ 0 ∷ 0 ∷ 0 ∷ 0 ∷ 0 ∷ 0 ∷ 0 ∷ 5 ∷
      26 ∷ 0 ∷ 15 ∷ 27 ∷ 0 ∷ 0 ∷ 16 ∷ 0 ∷ 9 ∷ 3 ∷ 0 ∷ 0 ∷ 0 ∷ 0 ∷ 0 ∷ 0 ∷ 0 ∷ 20 ∷
      26 ∷ 0 ∷ 24 ∷ 16 ∷ 0 ∷ 9 ∷ 4 ∷ 0 ∷ 0 ∷ 0 ∷ 0 ∷ 0 ∷ 0 ∷ 0 ∷ 7 ∷ 16 ∷ 0 ∷ 9 ∷ 5 ∷ 0 ∷ 0 ∷ 0 ∷ 0 ∷ 0 ∷ 0 ∷ 0 ∷ 10 ∷ [];
  device = 100 ∷ 101 ∷ 115 ∷ 107 ∷ [];
  limit = 65535;
  output = 200;
  memory = 65536;
  expected = accepted 1 (
      64 ∷ 0 ∷ 84 ∷ 0 ∷ 2 ∷ 0 ∷ 0 ∷
      2 ∷ 0 ∷ 0 ∷ 0 ∷ 0 ∷ 0 ∷ 0 ∷ 0 ∷ 0 ∷ 0 ∷ 0 ∷ 0 ∷ 0 ∷ 0 ∷ 0 ∷ 0 ∷ 0 ∷ 0 ∷ 0 ∷ 0 ∷ 0 ∷ 0 ∷ 0 ∷ 0 ∷ 0 ∷ 0 ∷ 0 ∷ 0 ∷ 0 ∷ 0 ∷ 0 ∷ 0 ∷
      65 ∷ 0 ∷ 45 ∷ 0 ∷ 1 ∷
      30 ∷ 0 ∷ 0 ∷ 0 ∷ 0 ∷ 0 ∷ 0 ∷ 0 ∷ 0 ∷ 0 ∷ 0 ∷ 0 ∷ 0 ∷ 0 ∷ 0 ∷ 0 ∷ 0 ∷ 0 ∷ 0 ∷ 0 ∷ 0 ∷ 0 ∷ 0 ∷ 0 ∷ 0 ∷ 0 ∷ 0 ∷ 0 ∷ 0 ∷ 0 ∷ 0 ∷ 0 ∷
      66 ∷ 0 ∷ 8 ∷ 0 ∷ 0 ∷ 0 ∷ 0 ∷ 0 ∷ 0 ∷ 0 ∷ 20 ∷ []);
}

-- 30. Row 29 with 5 (4) for 7 (4): the edit of one constant, whose label is in the set of row 29's fee.
-- The constant behind the default is equal: fee is 10, with 2, then 4 and 5, and the resource's 1. The default is not tried.
-- Kills: default matching where it is reached (20 with 1,2,3), under which the edit would move nothing.
unfoldable pub row30 : Row
row30 = record {
  manifest =
      1 ∷ 0 ∷ 18 ∷ 2 ∷ 0 ∷ 1 ∷ 97 ∷ 2 ∷ 0 ∷ 3 ∷ 102 ∷ 101 ∷ 101 ∷ 2 ∷ 0 ∷ 5 ∷ 107 ∷ 105 ∷ 111 ∷ 115 ∷ 107 ∷
      37 ∷ 0 ∷ 73 ∷ 0 ∷ 2 ∷ 17 ∷ 0 ∷ 3 ∷ 1 ∷ 0 ∷ 0 ∷
      38 ∷ 0 ∷ 62 ∷ 0 ∷ 1 ∷ 25 ∷ 0 ∷ 57 ∷ 16 ∷ 0 ∷ 9 ∷ 2 ∷ 0 ∷ 0 ∷ 0 ∷ 0 ∷ 0 ∷ 0 ∷ 0 ∷ 5 ∷
      26 ∷ 0 ∷ 15 ∷ 27 ∷ 0 ∷ 0 ∷ 16 ∷ 0 ∷ 9 ∷ 3 ∷ 0 ∷ 0 ∷ 0 ∷ 0 ∷ 0 ∷ 0 ∷ 0 ∷ 20 ∷
      26 ∷ 0 ∷ 24 ∷ 16 ∷ 0 ∷ 9 ∷ 4 ∷ 0 ∷ 0 ∷ 0 ∷ 0 ∷ 0 ∷ 0 ∷ 0 ∷ 5 ∷ 16 ∷ 0 ∷ 9 ∷ 5 ∷ 0 ∷ 0 ∷ 0 ∷ 0 ∷ 0 ∷ 0 ∷ 0 ∷ 10 ∷ [];
  device = 100 ∷ 101 ∷ 115 ∷ 107 ∷ [];
  limit = 65535;
  output = 200;
  memory = 65536;
  expected = accepted 1 (
      64 ∷ 0 ∷ 84 ∷ 0 ∷ 2 ∷ 0 ∷ 0 ∷
      2 ∷ 0 ∷ 0 ∷ 0 ∷ 0 ∷ 0 ∷ 0 ∷ 0 ∷ 0 ∷ 0 ∷ 0 ∷ 0 ∷ 0 ∷ 0 ∷ 0 ∷ 0 ∷ 0 ∷ 0 ∷ 0 ∷ 0 ∷ 0 ∷ 0 ∷ 0 ∷ 0 ∷ 0 ∷ 0 ∷ 0 ∷ 0 ∷ 0 ∷ 0 ∷ 0 ∷ 0 ∷
      65 ∷ 0 ∷ 45 ∷ 0 ∷ 1 ∷
      54 ∷ 0 ∷ 0 ∷ 0 ∷ 0 ∷ 0 ∷ 0 ∷ 0 ∷ 0 ∷ 0 ∷ 0 ∷ 0 ∷ 0 ∷ 0 ∷ 0 ∷ 0 ∷ 0 ∷ 0 ∷ 0 ∷ 0 ∷ 0 ∷ 0 ∷ 0 ∷ 0 ∷ 0 ∷ 0 ∷ 0 ∷ 0 ∷ 0 ∷ 0 ∷ 0 ∷ 0 ∷
      66 ∷ 0 ∷ 8 ∷ 0 ∷ 0 ∷ 0 ∷ 0 ∷ 0 ∷ 0 ∷ 0 ∷ 10 ∷ []);
}

-- 31. kiosk "a" (1): fee = 5 (2) ? {"a" (3) => 10 (4), default => 20 (5), 6 (6) => 30 (7)}.
-- As row 16, where no constant is equal: both are tried, the one behind the default too. So fee is 20 with 1,2,3,5,6.
-- Kills: default matching where it is reached, or a default that adds only the patterns written before it (fee loses 6).
unfoldable pub row31 : Row
row31 = record {
  manifest =
      1 ∷ 0 ∷ 18 ∷ 2 ∷ 0 ∷ 1 ∷ 97 ∷ 2 ∷ 0 ∷ 3 ∷ 102 ∷ 101 ∷ 101 ∷ 2 ∷ 0 ∷ 5 ∷ 107 ∷ 105 ∷ 111 ∷ 115 ∷ 107 ∷
      37 ∷ 0 ∷ 94 ∷ 0 ∷ 2 ∷ 17 ∷ 0 ∷ 3 ∷ 1 ∷ 0 ∷ 0 ∷
      38 ∷ 0 ∷ 83 ∷ 0 ∷ 1 ∷ 25 ∷ 0 ∷ 78 ∷ 16 ∷ 0 ∷ 9 ∷ 2 ∷ 0 ∷ 0 ∷ 0 ∷ 0 ∷ 0 ∷ 0 ∷ 0 ∷ 5 ∷
      26 ∷ 0 ∷ 18 ∷ 17 ∷ 0 ∷ 3 ∷ 3 ∷ 0 ∷ 0 ∷ 16 ∷ 0 ∷ 9 ∷ 4 ∷ 0 ∷ 0 ∷ 0 ∷ 0 ∷ 0 ∷ 0 ∷ 0 ∷ 10 ∷
      26 ∷ 0 ∷ 15 ∷ 27 ∷ 0 ∷ 0 ∷ 16 ∷ 0 ∷ 9 ∷ 5 ∷ 0 ∷ 0 ∷ 0 ∷ 0 ∷ 0 ∷ 0 ∷ 0 ∷ 20 ∷
      26 ∷ 0 ∷ 24 ∷ 16 ∷ 0 ∷ 9 ∷ 6 ∷ 0 ∷ 0 ∷ 0 ∷ 0 ∷ 0 ∷ 0 ∷ 0 ∷ 6 ∷ 16 ∷ 0 ∷ 9 ∷ 7 ∷ 0 ∷ 0 ∷ 0 ∷ 0 ∷ 0 ∷ 0 ∷ 0 ∷ 30 ∷ [];
  device = 100 ∷ 101 ∷ 115 ∷ 107 ∷ [];
  limit = 65535;
  output = 200;
  memory = 65536;
  expected = accepted 1 (
      64 ∷ 0 ∷ 84 ∷ 0 ∷ 2 ∷ 0 ∷ 0 ∷
      2 ∷ 0 ∷ 0 ∷ 0 ∷ 0 ∷ 0 ∷ 0 ∷ 0 ∷ 0 ∷ 0 ∷ 0 ∷ 0 ∷ 0 ∷ 0 ∷ 0 ∷ 0 ∷ 0 ∷ 0 ∷ 0 ∷ 0 ∷ 0 ∷ 0 ∷ 0 ∷ 0 ∷ 0 ∷ 0 ∷ 0 ∷ 0 ∷ 0 ∷ 0 ∷ 0 ∷ 0 ∷
      65 ∷ 0 ∷ 45 ∷ 0 ∷ 1 ∷
      110 ∷ 0 ∷ 0 ∷ 0 ∷ 0 ∷ 0 ∷ 0 ∷ 0 ∷ 0 ∷ 0 ∷ 0 ∷ 0 ∷ 0 ∷ 0 ∷ 0 ∷ 0 ∷ 0 ∷ 0 ∷ 0 ∷ 0 ∷ 0 ∷ 0 ∷ 0 ∷ 0 ∷ 0 ∷ 0 ∷ 0 ∷ 0 ∷ 0 ∷ 0 ∷ 0 ∷ 0 ∷
      66 ∷ 0 ∷ 8 ∷ 0 ∷ 0 ∷ 0 ∷ 0 ∷ 0 ∷ 0 ∷ 0 ∷ 20 ∷ []);
}

-- 32. kiosk "a" (1): fee = 5 (2) ? {default => 20 (3), 7 (4) => 10 (5), default => 40 (6)}.
-- "With two defaults the first counts": fee is 20 with 1,2,3,4; the second one's 6 is not evaluated.
-- Kills: the second default chosen (40 with 1,2,4,6).
unfoldable pub row32 : Row
row32 = record {
  manifest =
      1 ∷ 0 ∷ 18 ∷ 2 ∷ 0 ∷ 1 ∷ 97 ∷ 2 ∷ 0 ∷ 3 ∷ 102 ∷ 101 ∷ 101 ∷ 2 ∷ 0 ∷ 5 ∷ 107 ∷ 105 ∷ 111 ∷ 115 ∷ 107 ∷
      37 ∷ 0 ∷ 91 ∷ 0 ∷ 2 ∷ 17 ∷ 0 ∷ 3 ∷ 1 ∷ 0 ∷ 0 ∷
      38 ∷ 0 ∷ 80 ∷ 0 ∷ 1 ∷ 25 ∷ 0 ∷ 75 ∷ 16 ∷ 0 ∷ 9 ∷ 2 ∷ 0 ∷ 0 ∷ 0 ∷ 0 ∷ 0 ∷ 0 ∷ 0 ∷ 5 ∷
      26 ∷ 0 ∷ 15 ∷ 27 ∷ 0 ∷ 0 ∷ 16 ∷ 0 ∷ 9 ∷ 3 ∷ 0 ∷ 0 ∷ 0 ∷ 0 ∷ 0 ∷ 0 ∷ 0 ∷ 20 ∷
      26 ∷ 0 ∷ 24 ∷ 16 ∷ 0 ∷ 9 ∷ 4 ∷ 0 ∷ 0 ∷ 0 ∷ 0 ∷ 0 ∷ 0 ∷ 0 ∷ 7 ∷ 16 ∷ 0 ∷ 9 ∷ 5 ∷ 0 ∷ 0 ∷ 0 ∷ 0 ∷ 0 ∷ 0 ∷ 0 ∷ 10 ∷
      26 ∷ 0 ∷ 15 ∷ 27 ∷ 0 ∷ 0 ∷ 16 ∷ 0 ∷ 9 ∷ 6 ∷ 0 ∷ 0 ∷ 0 ∷ 0 ∷ 0 ∷ 0 ∷ 0 ∷ 40 ∷ [];
  device = 100 ∷ 101 ∷ 115 ∷ 107 ∷ [];
  limit = 65535;
  output = 200;
  memory = 65536;
  expected = accepted 1 (
      64 ∷ 0 ∷ 84 ∷ 0 ∷ 2 ∷ 0 ∷ 0 ∷
      2 ∷ 0 ∷ 0 ∷ 0 ∷ 0 ∷ 0 ∷ 0 ∷ 0 ∷ 0 ∷ 0 ∷ 0 ∷ 0 ∷ 0 ∷ 0 ∷ 0 ∷ 0 ∷ 0 ∷ 0 ∷ 0 ∷ 0 ∷ 0 ∷ 0 ∷ 0 ∷ 0 ∷ 0 ∷ 0 ∷ 0 ∷ 0 ∷ 0 ∷ 0 ∷ 0 ∷ 0 ∷
      65 ∷ 0 ∷ 45 ∷ 0 ∷ 1 ∷
      30 ∷ 0 ∷ 0 ∷ 0 ∷ 0 ∷ 0 ∷ 0 ∷ 0 ∷ 0 ∷ 0 ∷ 0 ∷ 0 ∷ 0 ∷ 0 ∷ 0 ∷ 0 ∷ 0 ∷ 0 ∷ 0 ∷ 0 ∷ 0 ∷ 0 ∷ 0 ∷ 0 ∷ 0 ∷ 0 ∷ 0 ∷ 0 ∷ 0 ∷ 0 ∷ 0 ∷ 0 ∷
      66 ∷ 0 ∷ 8 ∷ 0 ∷ 0 ∷ 0 ∷ 0 ∷ 0 ∷ 0 ∷ 0 ∷ 20 ∷ []);
}

-- 33. case 5 (1) {default: {kiosk "a" (2)}; 7 (3): {kiosk "b" (4)}}.
-- As row 29, of a case: the 7 is tried and is not equal, so the default's block runs. The set is 1 and the pattern tried, 3, and is the path of
-- kiosk "a", which has 1,2,3. Steps: 23, 25.
-- Kills: default matching where it is reached, or a default that adds only the patterns written before it (the kiosk loses 3).
unfoldable pub row33 : Row
row33 = record {
  manifest =
      1 ∷ 0 ∷ 16 ∷ 2 ∷ 0 ∷ 1 ∷ 97 ∷ 2 ∷ 0 ∷ 1 ∷ 98 ∷ 2 ∷ 0 ∷ 5 ∷ 107 ∷ 105 ∷ 111 ∷ 115 ∷ 107 ∷
      35 ∷ 0 ∷ 61 ∷ 16 ∷ 0 ∷ 9 ∷ 1 ∷ 0 ∷ 0 ∷ 0 ∷ 0 ∷ 0 ∷ 0 ∷ 0 ∷ 5 ∷
      36 ∷ 0 ∷ 17 ∷ 27 ∷ 0 ∷ 0 ∷ 32 ∷ 0 ∷ 11 ∷
      37 ∷ 0 ∷ 8 ∷ 0 ∷ 2 ∷ 17 ∷ 0 ∷ 3 ∷ 2 ∷ 0 ∷ 0 ∷
      36 ∷ 0 ∷ 26 ∷ 16 ∷ 0 ∷ 9 ∷ 3 ∷ 0 ∷ 0 ∷ 0 ∷ 0 ∷ 0 ∷ 0 ∷ 0 ∷ 7 ∷ 32 ∷ 0 ∷ 11 ∷
      37 ∷ 0 ∷ 8 ∷ 0 ∷ 2 ∷ 17 ∷ 0 ∷ 3 ∷ 4 ∷ 0 ∷ 1 ∷ [];
  device = 100 ∷ 101 ∷ 115 ∷ 107 ∷ [];
  limit = 65535;
  output = 200;
  memory = 65536;
  expected = accepted 2 (
      64 ∷ 0 ∷ 36 ∷ 0 ∷ 2 ∷ 0 ∷ 0 ∷
      14 ∷ 0 ∷ 0 ∷ 0 ∷ 0 ∷ 0 ∷ 0 ∷ 0 ∷ 0 ∷ 0 ∷ 0 ∷ 0 ∷ 0 ∷ 0 ∷ 0 ∷ 0 ∷ 0 ∷ 0 ∷ 0 ∷ 0 ∷ 0 ∷ 0 ∷ 0 ∷ 0 ∷ 0 ∷ 0 ∷ 0 ∷ 0 ∷ 0 ∷ 0 ∷ 0 ∷ 0 ∷ []);
}

-- 34. Row 33 with 5 (3) for 7 (3): the constant behind the default is equal, so its block runs: kiosk "b" has 1,3,4.
-- Kills: default matching where it is reached (kiosk "a" with 1,2).
unfoldable pub row34 : Row
row34 = record {
  manifest =
      1 ∷ 0 ∷ 16 ∷ 2 ∷ 0 ∷ 1 ∷ 97 ∷ 2 ∷ 0 ∷ 1 ∷ 98 ∷ 2 ∷ 0 ∷ 5 ∷ 107 ∷ 105 ∷ 111 ∷ 115 ∷ 107 ∷
      35 ∷ 0 ∷ 61 ∷ 16 ∷ 0 ∷ 9 ∷ 1 ∷ 0 ∷ 0 ∷ 0 ∷ 0 ∷ 0 ∷ 0 ∷ 0 ∷ 5 ∷
      36 ∷ 0 ∷ 17 ∷ 27 ∷ 0 ∷ 0 ∷ 32 ∷ 0 ∷ 11 ∷
      37 ∷ 0 ∷ 8 ∷ 0 ∷ 2 ∷ 17 ∷ 0 ∷ 3 ∷ 2 ∷ 0 ∷ 0 ∷
      36 ∷ 0 ∷ 26 ∷ 16 ∷ 0 ∷ 9 ∷ 3 ∷ 0 ∷ 0 ∷ 0 ∷ 0 ∷ 0 ∷ 0 ∷ 0 ∷ 5 ∷ 32 ∷ 0 ∷ 11 ∷
      37 ∷ 0 ∷ 8 ∷ 0 ∷ 2 ∷ 17 ∷ 0 ∷ 3 ∷ 4 ∷ 0 ∷ 1 ∷ [];
  device = 100 ∷ 101 ∷ 115 ∷ 107 ∷ [];
  limit = 65535;
  output = 200;
  memory = 65536;
  expected = accepted 2 (
      64 ∷ 0 ∷ 36 ∷ 0 ∷ 2 ∷ 0 ∷ 1 ∷
      26 ∷ 0 ∷ 0 ∷ 0 ∷ 0 ∷ 0 ∷ 0 ∷ 0 ∷ 0 ∷ 0 ∷ 0 ∷ 0 ∷ 0 ∷ 0 ∷ 0 ∷ 0 ∷ 0 ∷ 0 ∷ 0 ∷ 0 ∷ 0 ∷ 0 ∷ 0 ∷ 0 ∷ 0 ∷ 0 ∷ 0 ∷ 0 ∷ 0 ∷ 0 ∷ 0 ∷ 0 ∷ []);
}

-- 35. case 5 (1) {7 (2): {}; default: {kiosk "a" (3)}; 6 (4): {kiosk "b" (5)}}.
-- The default in the middle: 7 and 6 are tried before it, so kiosk "a" has 1,2,3,4.
-- Kills: default matching where it is reached, or a default that adds only the patterns written before it (the kiosk loses 4).
unfoldable pub row35 : Row
row35 = record {
  manifest =
      1 ∷ 0 ∷ 16 ∷ 2 ∷ 0 ∷ 1 ∷ 97 ∷ 2 ∷ 0 ∷ 1 ∷ 98 ∷ 2 ∷ 0 ∷ 5 ∷ 107 ∷ 105 ∷ 111 ∷ 115 ∷ 107 ∷
      35 ∷ 0 ∷ 79 ∷ 16 ∷ 0 ∷ 9 ∷ 1 ∷ 0 ∷ 0 ∷ 0 ∷ 0 ∷ 0 ∷ 0 ∷ 0 ∷ 5 ∷
      36 ∷ 0 ∷ 15 ∷ 16 ∷ 0 ∷ 9 ∷ 2 ∷ 0 ∷ 0 ∷ 0 ∷ 0 ∷ 0 ∷ 0 ∷ 0 ∷ 7 ∷ 32 ∷ 0 ∷ 0 ∷
      36 ∷ 0 ∷ 17 ∷ 27 ∷ 0 ∷ 0 ∷ 32 ∷ 0 ∷ 11 ∷
      37 ∷ 0 ∷ 8 ∷ 0 ∷ 2 ∷ 17 ∷ 0 ∷ 3 ∷ 3 ∷ 0 ∷ 0 ∷
      36 ∷ 0 ∷ 26 ∷ 16 ∷ 0 ∷ 9 ∷ 4 ∷ 0 ∷ 0 ∷ 0 ∷ 0 ∷ 0 ∷ 0 ∷ 0 ∷ 6 ∷ 32 ∷ 0 ∷ 11 ∷
      37 ∷ 0 ∷ 8 ∷ 0 ∷ 2 ∷ 17 ∷ 0 ∷ 3 ∷ 5 ∷ 0 ∷ 1 ∷ [];
  device = 100 ∷ 101 ∷ 115 ∷ 107 ∷ [];
  limit = 65535;
  output = 200;
  memory = 65536;
  expected = accepted 2 (
      64 ∷ 0 ∷ 36 ∷ 0 ∷ 2 ∷ 0 ∷ 0 ∷
      30 ∷ 0 ∷ 0 ∷ 0 ∷ 0 ∷ 0 ∷ 0 ∷ 0 ∷ 0 ∷ 0 ∷ 0 ∷ 0 ∷ 0 ∷ 0 ∷ 0 ∷ 0 ∷ 0 ∷ 0 ∷ 0 ∷ 0 ∷ 0 ∷ 0 ∷ 0 ∷ 0 ∷ 0 ∷ 0 ∷ 0 ∷ 0 ∷ 0 ∷ 0 ∷ 0 ∷ 0 ∷ []);
}

-- 36. class k {}; case 5 (1) {default: {kiosk "a" (2)}; 7 (3): {}; default: {x = 9 (4); include k}}; x = 8 (5); kiosk "b" (6): fee = x.
-- "With two defaults the first counts": kiosk "a" has 1,2,3, and k is not declared. The block of the second one counts all the same for marks and
-- trail, "each name assigned anywhere in any of its branches, taken or not", "if any branch holds a 27, 28 or 29 at any depth": {1,3} joins the mark
-- of x and the trail, which kiosk "a", stored after the test, has already by its path. So kiosk "b" has 1,3,6 and its fee 8, stored with 5 and the trail,
-- has 1,3,5,6. Steps: 23, 25, 21, 25.
-- Kills: the second default chosen (x twice, 14); a branch that is never reached left out of marks and trail (kiosk "b" and fee lose 1 and 3).
unfoldable pub row36 : Row
row36 = record {
  manifest =
      1 ∷ 0 ∷ 30 ∷ 2 ∷ 0 ∷ 1 ∷ 97 ∷ 2 ∷ 0 ∷ 1 ∷ 98 ∷ 2 ∷ 0 ∷ 3 ∷ 102 ∷ 101 ∷ 101 ∷ 2 ∷ 0 ∷ 1 ∷ 107 ∷ 2 ∷ 0 ∷ 5 ∷ 107 ∷ 105 ∷ 111 ∷ 115 ∷ 107 ∷ 2 ∷ 0 ∷ 1 ∷ 120 ∷
      52 ∷ 0 ∷ 5 ∷ 0 ∷ 3 ∷ 32 ∷ 0 ∷ 0 ∷
      35 ∷ 0 ∷ 81 ∷ 16 ∷ 0 ∷ 9 ∷ 1 ∷ 0 ∷ 0 ∷ 0 ∷ 0 ∷ 0 ∷ 0 ∷ 0 ∷ 5 ∷
      36 ∷ 0 ∷ 17 ∷ 27 ∷ 0 ∷ 0 ∷ 32 ∷ 0 ∷ 11 ∷
      37 ∷ 0 ∷ 8 ∷ 0 ∷ 4 ∷ 17 ∷ 0 ∷ 3 ∷ 2 ∷ 0 ∷ 0 ∷
      36 ∷ 0 ∷ 15 ∷ 16 ∷ 0 ∷ 9 ∷ 3 ∷ 0 ∷ 0 ∷ 0 ∷ 0 ∷ 0 ∷ 0 ∷ 0 ∷ 7 ∷ 32 ∷ 0 ∷ 0 ∷
      36 ∷ 0 ∷ 28 ∷ 27 ∷ 0 ∷ 0 ∷ 32 ∷ 0 ∷ 22 ∷
      33 ∷ 0 ∷ 14 ∷ 0 ∷ 5 ∷ 16 ∷ 0 ∷ 9 ∷ 4 ∷ 0 ∷ 0 ∷ 0 ∷ 0 ∷ 0 ∷ 0 ∷ 0 ∷ 9 ∷
      41 ∷ 0 ∷ 2 ∷ 0 ∷ 3 ∷
      33 ∷ 0 ∷ 14 ∷ 0 ∷ 5 ∷ 16 ∷ 0 ∷ 9 ∷ 5 ∷ 0 ∷ 0 ∷ 0 ∷ 0 ∷ 0 ∷ 0 ∷ 0 ∷ 8 ∷
      37 ∷ 0 ∷ 18 ∷ 0 ∷ 4 ∷ 17 ∷ 0 ∷ 3 ∷ 6 ∷ 0 ∷ 1 ∷
      38 ∷ 0 ∷ 7 ∷ 0 ∷ 2 ∷ 19 ∷ 0 ∷ 2 ∷ 0 ∷ 5 ∷ [];
  device = 100 ∷ 101 ∷ 115 ∷ 107 ∷ [];
  limit = 65535;
  output = 300;
  memory = 65536;
  expected = accepted 4 (
      64 ∷ 0 ∷ 36 ∷ 0 ∷ 4 ∷ 0 ∷ 0 ∷
      14 ∷ 0 ∷ 0 ∷ 0 ∷ 0 ∷ 0 ∷ 0 ∷ 0 ∷ 0 ∷ 0 ∷ 0 ∷ 0 ∷ 0 ∷ 0 ∷ 0 ∷ 0 ∷ 0 ∷ 0 ∷ 0 ∷ 0 ∷ 0 ∷ 0 ∷ 0 ∷ 0 ∷ 0 ∷ 0 ∷ 0 ∷ 0 ∷ 0 ∷ 0 ∷ 0 ∷ 0 ∷
      64 ∷ 0 ∷ 84 ∷ 0 ∷ 4 ∷ 0 ∷ 1 ∷
      74 ∷ 0 ∷ 0 ∷ 0 ∷ 0 ∷ 0 ∷ 0 ∷ 0 ∷ 0 ∷ 0 ∷ 0 ∷ 0 ∷ 0 ∷ 0 ∷ 0 ∷ 0 ∷ 0 ∷ 0 ∷ 0 ∷ 0 ∷ 0 ∷ 0 ∷ 0 ∷ 0 ∷ 0 ∷ 0 ∷ 0 ∷ 0 ∷ 0 ∷ 0 ∷ 0 ∷ 0 ∷
      65 ∷ 0 ∷ 45 ∷ 0 ∷ 2 ∷
      106 ∷ 0 ∷ 0 ∷ 0 ∷ 0 ∷ 0 ∷ 0 ∷ 0 ∷ 0 ∷ 0 ∷ 0 ∷ 0 ∷ 0 ∷ 0 ∷ 0 ∷ 0 ∷ 0 ∷ 0 ∷ 0 ∷ 0 ∷ 0 ∷ 0 ∷ 0 ∷ 0 ∷ 0 ∷ 0 ∷ 0 ∷ 0 ∷ 0 ∷ 0 ∷ 0 ∷ 0 ∷
      66 ∷ 0 ∷ 8 ∷ 0 ∷ 0 ∷ 0 ∷ 0 ∷ 0 ∷ 0 ∷ 0 ∷ 8 ∷ []);
}

-- 37. include a; class a {kiosk "front" (1): price = 40 (2), screens = 2 (3)}.
-- "A class or type must be usable before its definition": the class is declared at the 29. The kiosk has 1, its price 1,2 and its screens 1,3. Steps: 29, 25.
-- Kills: a class found only if defined before (9 at the 29).
unfoldable pub row37 : Row
row37 = record {
  manifest =
      1 ∷ 0 ∷ 38 ∷ 2 ∷ 0 ∷ 1 ∷ 97 ∷ 2 ∷ 0 ∷ 5 ∷ 102 ∷ 114 ∷ 111 ∷ 110 ∷ 116 ∷ 2 ∷ 0 ∷ 5 ∷ 107 ∷ 105 ∷ 111 ∷ 115 ∷ 107 ∷ 2 ∷ 0 ∷ 5 ∷ 112 ∷ 114 ∷ 105 ∷ 99 ∷ 101 ∷ 2 ∷ 0 ∷ 7 ∷ 115 ∷ 99 ∷ 114 ∷ 101 ∷ 101 ∷ 110 ∷ 115 ∷
      41 ∷ 0 ∷ 2 ∷ 0 ∷ 0 ∷
      52 ∷ 0 ∷ 50 ∷ 0 ∷ 0 ∷ 32 ∷ 0 ∷ 45 ∷ 37 ∷ 0 ∷ 42 ∷ 0 ∷ 2 ∷ 17 ∷ 0 ∷ 3 ∷ 1 ∷ 0 ∷ 1 ∷ 38 ∷ 0 ∷ 14 ∷ 0 ∷ 3 ∷ 16 ∷ 0 ∷ 9 ∷ 2 ∷ 0 ∷ 0 ∷ 0 ∷ 0 ∷ 0 ∷ 0 ∷ 0 ∷ 40 ∷ 38 ∷ 0 ∷ 14 ∷ 0 ∷ 4 ∷ 16 ∷ 0 ∷ 9 ∷ 3 ∷ 0 ∷ 0 ∷ 0 ∷ 0 ∷ 0 ∷ 0 ∷ 0 ∷ 2 ∷ [];
  device = 100 ∷ 101 ∷ 115 ∷ 107 ∷ [];
  limit = 65535;
  output = 200;
  memory = 65536;
  expected = accepted 2 (
      64 ∷ 0 ∷ 132 ∷ 0 ∷ 2 ∷ 0 ∷ 1 ∷
      2 ∷ 0 ∷ 0 ∷ 0 ∷ 0 ∷ 0 ∷ 0 ∷ 0 ∷ 0 ∷ 0 ∷ 0 ∷ 0 ∷ 0 ∷ 0 ∷ 0 ∷ 0 ∷ 0 ∷ 0 ∷ 0 ∷ 0 ∷ 0 ∷ 0 ∷ 0 ∷ 0 ∷ 0 ∷ 0 ∷ 0 ∷ 0 ∷ 0 ∷ 0 ∷ 0 ∷ 0 ∷
      65 ∷ 0 ∷ 45 ∷ 0 ∷ 3 ∷
      6 ∷ 0 ∷ 0 ∷ 0 ∷ 0 ∷ 0 ∷ 0 ∷ 0 ∷ 0 ∷ 0 ∷ 0 ∷ 0 ∷ 0 ∷ 0 ∷ 0 ∷ 0 ∷ 0 ∷ 0 ∷ 0 ∷ 0 ∷ 0 ∷ 0 ∷ 0 ∷ 0 ∷ 0 ∷ 0 ∷ 0 ∷ 0 ∷ 0 ∷ 0 ∷ 0 ∷ 0 ∷
      66 ∷ 0 ∷ 8 ∷ 0 ∷ 0 ∷ 0 ∷ 0 ∷ 0 ∷ 0 ∷ 0 ∷ 40 ∷
      65 ∷ 0 ∷ 45 ∷ 0 ∷ 4 ∷
      10 ∷ 0 ∷ 0 ∷ 0 ∷ 0 ∷ 0 ∷ 0 ∷ 0 ∷ 0 ∷ 0 ∷ 0 ∷ 0 ∷ 0 ∷ 0 ∷ 0 ∷ 0 ∷ 0 ∷ 0 ∷ 0 ∷ 0 ∷ 0 ∷ 0 ∷ 0 ∷ 0 ∷ 0 ∷ 0 ∷ 0 ∷ 0 ∷ 0 ∷ 0 ∷ 0 ∷ 0 ∷
      66 ∷ 0 ∷ 8 ∷ 0 ∷ 0 ∷ 0 ∷ 0 ∷ 0 ∷ 0 ∷ 0 ∷ 2 ∷ []);
}

-- 38. Row 37 with 55 (2) for 40 (2): "Demand 3 covers such uses too". The edited constant stands in the class that is defined behind its use, and its label
-- is in the price's set and not in that of screens, which stays (EditRuleUsed).
unfoldable pub row38 : Row
row38 = record {
  manifest =
      1 ∷ 0 ∷ 38 ∷ 2 ∷ 0 ∷ 1 ∷ 97 ∷ 2 ∷ 0 ∷ 5 ∷ 102 ∷ 114 ∷ 111 ∷ 110 ∷ 116 ∷ 2 ∷ 0 ∷ 5 ∷ 107 ∷ 105 ∷ 111 ∷ 115 ∷ 107 ∷ 2 ∷ 0 ∷ 5 ∷ 112 ∷ 114 ∷ 105 ∷ 99 ∷ 101 ∷ 2 ∷ 0 ∷ 7 ∷ 115 ∷ 99 ∷ 114 ∷ 101 ∷ 101 ∷ 110 ∷ 115 ∷
      41 ∷ 0 ∷ 2 ∷ 0 ∷ 0 ∷
      52 ∷ 0 ∷ 50 ∷ 0 ∷ 0 ∷ 32 ∷ 0 ∷ 45 ∷ 37 ∷ 0 ∷ 42 ∷ 0 ∷ 2 ∷ 17 ∷ 0 ∷ 3 ∷ 1 ∷ 0 ∷ 1 ∷ 38 ∷ 0 ∷ 14 ∷ 0 ∷ 3 ∷ 16 ∷ 0 ∷ 9 ∷ 2 ∷ 0 ∷ 0 ∷ 0 ∷ 0 ∷ 0 ∷ 0 ∷ 0 ∷ 55 ∷ 38 ∷ 0 ∷ 14 ∷ 0 ∷ 4 ∷ 16 ∷ 0 ∷ 9 ∷ 3 ∷ 0 ∷ 0 ∷ 0 ∷ 0 ∷ 0 ∷ 0 ∷ 0 ∷ 2 ∷ [];
  device = 100 ∷ 101 ∷ 115 ∷ 107 ∷ [];
  limit = 65535;
  output = 200;
  memory = 65536;
  expected = accepted 2 (
      64 ∷ 0 ∷ 132 ∷ 0 ∷ 2 ∷ 0 ∷ 1 ∷
      2 ∷ 0 ∷ 0 ∷ 0 ∷ 0 ∷ 0 ∷ 0 ∷ 0 ∷ 0 ∷ 0 ∷ 0 ∷ 0 ∷ 0 ∷ 0 ∷ 0 ∷ 0 ∷ 0 ∷ 0 ∷ 0 ∷ 0 ∷ 0 ∷ 0 ∷ 0 ∷ 0 ∷ 0 ∷ 0 ∷ 0 ∷ 0 ∷ 0 ∷ 0 ∷ 0 ∷ 0 ∷
      65 ∷ 0 ∷ 45 ∷ 0 ∷ 3 ∷
      6 ∷ 0 ∷ 0 ∷ 0 ∷ 0 ∷ 0 ∷ 0 ∷ 0 ∷ 0 ∷ 0 ∷ 0 ∷ 0 ∷ 0 ∷ 0 ∷ 0 ∷ 0 ∷ 0 ∷ 0 ∷ 0 ∷ 0 ∷ 0 ∷ 0 ∷ 0 ∷ 0 ∷ 0 ∷ 0 ∷ 0 ∷ 0 ∷ 0 ∷ 0 ∷ 0 ∷ 0 ∷
      66 ∷ 0 ∷ 8 ∷ 0 ∷ 0 ∷ 0 ∷ 0 ∷ 0 ∷ 0 ∷ 0 ∷ 55 ∷
      65 ∷ 0 ∷ 45 ∷ 0 ∷ 4 ∷
      10 ∷ 0 ∷ 0 ∷ 0 ∷ 0 ∷ 0 ∷ 0 ∷ 0 ∷ 0 ∷ 0 ∷ 0 ∷ 0 ∷ 0 ∷ 0 ∷ 0 ∷ 0 ∷ 0 ∷ 0 ∷ 0 ∷ 0 ∷ 0 ∷ 0 ∷ 0 ∷ 0 ∷ 0 ∷ 0 ∷ 0 ∷ 0 ∷ 0 ∷ 0 ∷ 0 ∷ 0 ∷
      66 ∷ 0 ∷ 8 ∷ 0 ∷ 0 ∷ 0 ∷ 0 ∷ 0 ∷ 0 ∷ 0 ∷ 2 ∷ []);
}

-- 39. t "front" (1): price = 40 (2); type t (price) {kiosk title: price = price}.
-- As row 37, of a type. The title has 1 and the parameter 2, so the kiosk has 1 and its price 1,2. Steps: 27, 25.
-- Kills: a type found only if defined before (9 at the 27).
unfoldable pub row39 : Row
row39 = record {
  manifest =
      1 ∷ 0 ∷ 36 ∷ 2 ∷ 0 ∷ 5 ∷ 102 ∷ 114 ∷ 111 ∷ 110 ∷ 116 ∷ 2 ∷ 0 ∷ 5 ∷ 107 ∷ 105 ∷ 111 ∷ 115 ∷ 107 ∷ 2 ∷ 0 ∷ 5 ∷ 112 ∷ 114 ∷ 105 ∷ 99 ∷ 101 ∷ 2 ∷ 0 ∷ 1 ∷ 116 ∷ 2 ∷ 0 ∷ 5 ∷ 116 ∷ 105 ∷ 116 ∷ 108 ∷ 101 ∷
      39 ∷ 0 ∷ 25 ∷ 0 ∷ 3 ∷ 17 ∷ 0 ∷ 3 ∷ 1 ∷ 0 ∷ 0 ∷ 38 ∷ 0 ∷ 14 ∷ 0 ∷ 2 ∷ 16 ∷ 0 ∷ 9 ∷ 2 ∷ 0 ∷ 0 ∷ 0 ∷ 0 ∷ 0 ∷ 0 ∷ 0 ∷ 40 ∷
      50 ∷ 0 ∷ 30 ∷ 0 ∷ 3 ∷ 51 ∷ 0 ∷ 2 ∷ 0 ∷ 2 ∷ 32 ∷ 0 ∷ 20 ∷ 37 ∷ 0 ∷ 17 ∷ 0 ∷ 1 ∷ 19 ∷ 0 ∷ 2 ∷ 0 ∷ 4 ∷ 38 ∷ 0 ∷ 7 ∷ 0 ∷ 2 ∷ 19 ∷ 0 ∷ 2 ∷ 0 ∷ 2 ∷ [];
  device = 100 ∷ 101 ∷ 115 ∷ 107 ∷ [];
  limit = 65535;
  output = 200;
  memory = 65536;
  expected = accepted 2 (
      64 ∷ 0 ∷ 84 ∷ 0 ∷ 1 ∷ 0 ∷ 0 ∷
      2 ∷ 0 ∷ 0 ∷ 0 ∷ 0 ∷ 0 ∷ 0 ∷ 0 ∷ 0 ∷ 0 ∷ 0 ∷ 0 ∷ 0 ∷ 0 ∷ 0 ∷ 0 ∷ 0 ∷ 0 ∷ 0 ∷ 0 ∷ 0 ∷ 0 ∷ 0 ∷ 0 ∷ 0 ∷ 0 ∷ 0 ∷ 0 ∷ 0 ∷ 0 ∷ 0 ∷ 0 ∷
      65 ∷ 0 ∷ 45 ∷ 0 ∷ 2 ∷
      6 ∷ 0 ∷ 0 ∷ 0 ∷ 0 ∷ 0 ∷ 0 ∷ 0 ∷ 0 ∷ 0 ∷ 0 ∷ 0 ∷ 0 ∷ 0 ∷ 0 ∷ 0 ∷ 0 ∷ 0 ∷ 0 ∷ 0 ∷ 0 ∷ 0 ∷ 0 ∷ 0 ∷ 0 ∷ 0 ∷ 0 ∷ 0 ∷ 0 ∷ 0 ∷ 0 ∷ 0 ∷
      66 ∷ 0 ∷ 8 ∷ 0 ∷ 0 ∷ 0 ∷ 0 ∷ 0 ∷ 0 ∷ 0 ∷ 40 ∷ []);
}

-- 40. class b under a {kiosk "front" (1): price = price}; include b; class a {price = 40 (2)}.
-- The parent is defined behind its child and behind the declaration that needs it. It is declared first: price is read from its scope, with 2. Steps: 29, the
-- parent's declaration, 21, 25.
-- Kills: a parent found only if defined before (9 at the 35).
unfoldable pub row40 : Row
row40 = record {
  manifest =
      1 ∷ 0 ∷ 32 ∷ 2 ∷ 0 ∷ 1 ∷ 97 ∷ 2 ∷ 0 ∷ 1 ∷ 98 ∷ 2 ∷ 0 ∷ 5 ∷ 102 ∷ 114 ∷ 111 ∷ 110 ∷ 116 ∷ 2 ∷ 0 ∷ 5 ∷ 107 ∷ 105 ∷ 111 ∷ 115 ∷ 107 ∷ 2 ∷ 0 ∷ 5 ∷ 112 ∷ 114 ∷ 105 ∷ 99 ∷ 101 ∷
      52 ∷ 0 ∷ 31 ∷ 0 ∷ 1 ∷ 53 ∷ 0 ∷ 2 ∷ 0 ∷ 0 ∷ 32 ∷ 0 ∷ 21 ∷ 37 ∷ 0 ∷ 18 ∷ 0 ∷ 3 ∷ 17 ∷ 0 ∷ 3 ∷ 1 ∷ 0 ∷ 2 ∷ 38 ∷ 0 ∷ 7 ∷ 0 ∷ 4 ∷ 19 ∷ 0 ∷ 2 ∷ 0 ∷ 4 ∷
      41 ∷ 0 ∷ 2 ∷ 0 ∷ 1 ∷
      52 ∷ 0 ∷ 22 ∷ 0 ∷ 0 ∷ 32 ∷ 0 ∷ 17 ∷ 33 ∷ 0 ∷ 14 ∷ 0 ∷ 4 ∷ 16 ∷ 0 ∷ 9 ∷ 2 ∷ 0 ∷ 0 ∷ 0 ∷ 0 ∷ 0 ∷ 0 ∷ 0 ∷ 40 ∷ [];
  device = 100 ∷ 101 ∷ 115 ∷ 107 ∷ [];
  limit = 65535;
  output = 200;
  memory = 65536;
  expected = accepted 4 (
      64 ∷ 0 ∷ 84 ∷ 0 ∷ 3 ∷ 0 ∷ 2 ∷
      2 ∷ 0 ∷ 0 ∷ 0 ∷ 0 ∷ 0 ∷ 0 ∷ 0 ∷ 0 ∷ 0 ∷ 0 ∷ 0 ∷ 0 ∷ 0 ∷ 0 ∷ 0 ∷ 0 ∷ 0 ∷ 0 ∷ 0 ∷ 0 ∷ 0 ∷ 0 ∷ 0 ∷ 0 ∷ 0 ∷ 0 ∷ 0 ∷ 0 ∷ 0 ∷ 0 ∷ 0 ∷
      65 ∷ 0 ∷ 45 ∷ 0 ∷ 4 ∷
      6 ∷ 0 ∷ 0 ∷ 0 ∷ 0 ∷ 0 ∷ 0 ∷ 0 ∷ 0 ∷ 0 ∷ 0 ∷ 0 ∷ 0 ∷ 0 ∷ 0 ∷ 0 ∷ 0 ∷ 0 ∷ 0 ∷ 0 ∷ 0 ∷ 0 ∷ 0 ∷ 0 ∷ 0 ∷ 0 ∷ 0 ∷ 0 ∷ 0 ∷ 0 ∷ 0 ∷ 0 ∷
      66 ∷ 0 ∷ 8 ∷ 0 ∷ 0 ∷ 0 ∷ 0 ∷ 0 ∷ 0 ∷ 0 ∷ 40 ∷ []);
}

-- 41. kiosk "front" (1): price = a::price; class a {price = 40 (2)}.
-- "A 15 of a class defined later and not declared is 13", at the 15.
-- Kills: a class known only from where it stands (9 at the 15).
unfoldable pub row41 : Row
row41 = record {
  manifest =
      1 ∷ 0 ∷ 28 ∷ 2 ∷ 0 ∷ 1 ∷ 97 ∷ 2 ∷ 0 ∷ 5 ∷ 102 ∷ 114 ∷ 111 ∷ 110 ∷ 116 ∷ 2 ∷ 0 ∷ 5 ∷ 107 ∷ 105 ∷ 111 ∷ 115 ∷ 107 ∷ 2 ∷ 0 ∷ 5 ∷ 112 ∷ 114 ∷ 105 ∷ 99 ∷ 101 ∷
      37 ∷ 0 ∷ 20 ∷ 0 ∷ 2 ∷ 17 ∷ 0 ∷ 3 ∷ 1 ∷ 0 ∷ 1 ∷ 38 ∷ 0 ∷ 9 ∷ 0 ∷ 3 ∷ 21 ∷ 0 ∷ 4 ∷ 0 ∷ 0 ∷ 0 ∷ 3 ∷
      52 ∷ 0 ∷ 22 ∷ 0 ∷ 0 ∷ 32 ∷ 0 ∷ 17 ∷ 33 ∷ 0 ∷ 14 ∷ 0 ∷ 3 ∷ 16 ∷ 0 ∷ 9 ∷ 2 ∷ 0 ∷ 0 ∷ 0 ∷ 0 ∷ 0 ∷ 0 ∷ 0 ∷ 40 ∷ [];
  device = 100 ∷ 101 ∷ 115 ∷ 107 ∷ [];
  limit = 65535;
  output = 200;
  memory = 65536;
  expected = refused 13 47;
}

-- 42. kiosk "front" (1): price = the price of t "front" (2); type t {}.
-- "An 18 of a type defined later is 19", at the 18.
-- Kills: a type known only from where it stands (9 at the 18).
unfoldable pub row42 : Row
row42 = record {
  manifest =
      1 ∷ 0 ∷ 28 ∷ 2 ∷ 0 ∷ 5 ∷ 102 ∷ 114 ∷ 111 ∷ 110 ∷ 116 ∷ 2 ∷ 0 ∷ 5 ∷ 107 ∷ 105 ∷ 111 ∷ 115 ∷ 107 ∷ 2 ∷ 0 ∷ 5 ∷ 112 ∷ 114 ∷ 105 ∷ 99 ∷ 101 ∷ 2 ∷ 0 ∷ 1 ∷ 116 ∷
      37 ∷ 0 ∷ 26 ∷ 0 ∷ 1 ∷ 17 ∷ 0 ∷ 3 ∷ 1 ∷ 0 ∷ 0 ∷ 38 ∷ 0 ∷ 15 ∷ 0 ∷ 2 ∷ 24 ∷ 0 ∷ 10 ∷ 0 ∷ 3 ∷ 0 ∷ 2 ∷ 17 ∷ 0 ∷ 3 ∷ 2 ∷ 0 ∷ 0 ∷
      50 ∷ 0 ∷ 5 ∷ 0 ∷ 3 ∷ 32 ∷ 0 ∷ 0 ∷ [];
  device = 100 ∷ 101 ∷ 115 ∷ 107 ∷ [];
  limit = 65535;
  output = 200;
  memory = 65536;
  expected = refused 19 47;
}

-- 43. include a; class a {}; class a {}; with limit 0.
-- 8 "is given after 5 and before any step", also with limit 0: at the second 34.
-- Kills: 8 given where the second definition stands in the run (6 at the 29).
unfoldable pub row43 : Row
row43 = record {
  manifest =
      1 ∷ 0 ∷ 4 ∷ 2 ∷ 0 ∷ 1 ∷ 97 ∷
      41 ∷ 0 ∷ 2 ∷ 0 ∷ 0 ∷
      52 ∷ 0 ∷ 5 ∷ 0 ∷ 0 ∷ 32 ∷ 0 ∷ 0 ∷
      52 ∷ 0 ∷ 5 ∷ 0 ∷ 0 ∷ 32 ∷ 0 ∷ 0 ∷ [];
  device = 100 ∷ 101 ∷ 115 ∷ 107 ∷ [];
  limit = 0;
  output = 200;
  memory = 65536;
  expected = refused 8 20;
}

-- 44. x = x; type kiosk {}.
-- A definition with a built-in type's name is 8, before the 13 of the read that runs before it.
-- Kills: 8 given in the run (13 at the 13).
unfoldable pub row44 : Row
row44 = record {
  manifest =
      1 ∷ 0 ∷ 12 ∷ 2 ∷ 0 ∷ 5 ∷ 107 ∷ 105 ∷ 111 ∷ 115 ∷ 107 ∷ 2 ∷ 0 ∷ 1 ∷ 120 ∷
      33 ∷ 0 ∷ 7 ∷ 0 ∷ 1 ∷ 19 ∷ 0 ∷ 2 ∷ 0 ∷ 1 ∷
      50 ∷ 0 ∷ 5 ∷ 0 ∷ 0 ∷ 32 ∷ 0 ∷ 0 ∷ [];
  device = 100 ∷ 101 ∷ 115 ∷ 107 ∷ [];
  limit = 65535;
  output = 200;
  memory = 65536;
  expected = refused 8 25;
}

unfoldable pub table : List Row
table =
    row1 ∷ row2 ∷ row3 ∷ row4 ∷ row5 ∷ row6 ∷ row7 ∷ row8 ∷ row9 ∷ row10 ∷ row11 ∷ row12 ∷ row13 ∷
    row14 ∷ row15 ∷ row16 ∷ row17 ∷ row18 ∷ row19 ∷ row20 ∷ row21 ∷ row22 ∷ row23 ∷ row24 ∷ row25 ∷ row26 ∷
    row27 ∷ row28 ∷ row29 ∷ row30 ∷ row31 ∷ row32 ∷ row33 ∷ row34 ∷ row35 ∷ row36 ∷ row37 ∷ row38 ∷ row39 ∷
    row40 ∷ row41 ∷ row42 ∷ row43 ∷ row44 ∷ []

-- What the schedule printer writes for the manifests of rows 1 and 2 and device "desk". Each line ends in a line feed.

-- kiosk front price 40 3 1,2,4
-- kiosk front screens 2 2 4,5
-- steps 4
unfoldable pub printed1 : List ℕ
printed1 =
    107 ∷ 105 ∷ 111 ∷ 115 ∷ 107 ∷ 32 ∷ 102 ∷ 114 ∷ 111 ∷ 110 ∷ 116 ∷ 32 ∷ 112 ∷ 114 ∷ 105 ∷ 99 ∷ 101 ∷ 32 ∷ 52 ∷ 48 ∷ 32 ∷ 51 ∷ 32 ∷
    49 ∷ 44 ∷ 50 ∷ 44 ∷ 52 ∷ 10 ∷
    107 ∷ 105 ∷ 111 ∷ 115 ∷ 107 ∷ 32 ∷ 102 ∷ 114 ∷ 111 ∷ 110 ∷ 116 ∷ 32 ∷ 115 ∷ 99 ∷ 114 ∷ 101 ∷ 101 ∷ 110 ∷ 115 ∷ 32 ∷ 50 ∷ 32 ∷ 50 ∷ 32 ∷
    52 ∷ 44 ∷ 53 ∷ 10 ∷
    115 ∷ 116 ∷ 101 ∷ 112 ∷ 115 ∷ 32 ∷ 52 ∷ 10 ∷ []

-- kiosk front price 55 3 2,3,4
-- kiosk front screens 2 2 4,5
-- steps 5
unfoldable pub printed2 : List ℕ
printed2 =
    107 ∷ 105 ∷ 111 ∷ 115 ∷ 107 ∷ 32 ∷ 102 ∷ 114 ∷ 111 ∷ 110 ∷ 116 ∷ 32 ∷ 112 ∷ 114 ∷ 105 ∷ 99 ∷ 101 ∷ 32 ∷ 53 ∷ 53 ∷ 32 ∷ 51 ∷ 32 ∷
    50 ∷ 44 ∷ 51 ∷ 44 ∷ 52 ∷ 10 ∷
    107 ∷ 105 ∷ 111 ∷ 115 ∷ 107 ∷ 32 ∷ 102 ∷ 114 ∷ 111 ∷ 110 ∷ 116 ∷ 32 ∷ 115 ∷ 99 ∷ 114 ∷ 101 ∷ 101 ∷ 110 ∷ 115 ∷ 32 ∷ 50 ∷ 32 ∷ 50 ∷ 32 ∷
    52 ∷ 44 ∷ 53 ∷ 10 ∷
    115 ∷ 116 ∷ 101 ∷ 112 ∷ 115 ∷ 32 ∷ 53 ∷ 10 ∷ []
