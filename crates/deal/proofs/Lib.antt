mod Deals
