-- For contracts inside; the exports of the library do not cite it.
--
-- A digest is written into a buffer that is long enough.
use Rattle.std.specs.Prelude.{ℕ, List, [], cond, leb, length}
use Rattle.sha256.specs.Digest.{digest}

-- the digest of a message, or nothing where the buffer is shorter than a digest
unfoldable pub digest_into : List ℕ → List ℕ → List ℕ
digest_into buffer message = cond (leb 32 (length buffer)) (digest message) []
