-- For contracts inside; the exports of the library do not cite it.
--
-- A value is decoded into a buffer that is at least as long.
use Rattle.std.specs.Prelude.{ℕ, List, [], cond, leb, length}
use Rattle.form_coding.specs.Coding.{decode}

-- what a value decodes to, or nothing where the buffer is shorter than the value
unfoldable pub decoded_into : List ℕ → List ℕ → List ℕ
decoded_into buffer value = cond (leb (length value) (length buffer)) (decode value) []
