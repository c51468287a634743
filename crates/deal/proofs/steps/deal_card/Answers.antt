use Rattle.deal.proofs.Deals.{all_dealt}
use Rattle.deal.proofs.steps.deal_card.Goals as goal

pub returns : goal.returns
returns g c =
    all_dealt _ (g.met.C.Cipher.lawful _) _ _ _ _ _ _ _ _ _ _ _ _ _ c.in_ok-code.ensures c.in_ok-once.ensures c.in_ok-twice.ensures
    c.in_ok-lock.ensures c.in_ok-swapped.ensures c.in_ok-undo_key.ensures c.in_ok-undo_key-2.ensures c.in_ok-share.ensures c.in_ok-opened.ensures c.read_card-card.ensures
