-- A part written as one is a run of stores.
use Rattle.std.proofs.Common.{rules, ◌≡◌, replicate, ℕ}
use Rattle.octets.proofs.Stores.{put_mid-sets}
use Rattle.octets.proofs.clear_at.Goals as goal

pub returns : goal.returns
returns c =
    let zeros : c.fill.new.self ≡ replicate {A = ℕ} c.args.n 0 = search rules in
    rw zeros (put_mid-sets c.args.at _ c.args.b.now (replicate c.args.n 0) (search rules) (search rules))
